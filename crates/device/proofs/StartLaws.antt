-- Steps of the loops that make a port, and what they come to. Assumes nothing.
use Rattle.std.proofs.Common.{◌≡◌, ℕ, suc, ◌+◌, ◌<◌, ◌≤◌, Bool, true, false, eqb, ◌&&◌, ◌||◌, List, [], ◌∷◌, ◌++◌, map, length, get_or, drop, refl, sym, ap, ◌∙◌, append-nil, arith}
use Rattle.std.proofs.lemmas.List.{at_drop_more, at_drop_all, map-append}
use mathlib.Core.List.{append_assoc}
use Rattle.std.specs.List.{list_any}
use Rattle.flows.specs.Flow.{FlowModel}
use Rattle.flows.specs.Models.{flow_of}
use Rattle.promises.specs.Promises.{goes}
use Rattle.levels.specs.Levels.{LevelModel, full_level}
use Rattle.admission.specs.declared.refusal.Numbered.{Numbered}
use Rattle.admission.specs.Models.{numbered_model}
use Rattle.admission.specs.Tests.{NumberedModel}
use Rattle.admission.specs.Rules.{flows_of}
use Rattle.bridge.specs.Ports.{GateState}
use Rattle.device.specs.Starts.{begins_at, some_goes, edge_one, edges_from, inside_one, inside_behind, inside_before, at_rest}

-- a road goes on from its first port, or behind it
pub goes_step : (p q x : ℕ) (ys : List ℕ) → goes p q (x ∷ ys) ≡ ((eqb x p && begins_at q ys) || goes p q ys)
unfolding goes
goes_step p q x [] = by (eqb x p)
  where
    by : (b : Bool) → false ≡ ((b && false) || false)
    by true = refl
    by false = refl
goes_step p q x (y ∷ ys) = refl

-- the flows of a plan
abbrev pub models : List Numbered → List FlowModel
models ns = flows_of (map numbered_model ns)

-- what is asked of the flows as they stand in a plan
pub any_told : (p q c : ℕ) (ns : List Numbered) (r : Bool) →
    r ≡ list_any (λ (n : Numbered). eqb n.flow.class c && goes p q (flow_of n.flow).road) ns → r ≡ some_goes p q c (models ns)
any_told p q c ns r is = is ∙ same ns
  where
    same : (ns : List Numbered) →
        list_any (λ (n : Numbered). eqb n.flow.class c && goes p q (flow_of n.flow).road) ns ≡ some_goes p q c (models ns)
    same [] = refl
    same (n ∷ ns) = ap (λ b. (eqb n.flow.class c && goes p q (flow_of n.flow).road) || b) (same ns)

pub classes_told : (ns : List Numbered) (cs : List ℕ) → cs ≡ map (λ (n : Numbered). n.flow.class) ns →
    cs ≡ map (λ (g : NumberedModel). g.flow.class) (map numbered_model ns)
classes_told ns cs is = is ∙ same ns
  where
    same : (ns : List Numbered) → map (λ (n : Numbered). n.flow.class) ns ≡ map (λ (g : NumberedModel). g.flow.class) (map numbered_model ns)
    same [] = refl
    same (n ∷ ns) = ap (λ cs. n.flow.class ∷ cs) (same ns)

-- what was made so far, and what is still to be made, are all of it: with one part more
pub grown : {X : Type 0} (made more part rest all : List X) → more ≡ made ++ part → made ++ (part ++ rest) ≡ all → more ++ rest ≡ all
grown made more part rest all is so = ap (λ xs. xs ++ rest) is ∙ append_assoc made part rest ∙ so

abbrev pub fulls : List Numbered → List LevelModel
fulls ns = map (λ (f : FlowModel). full_level f.burst f.rate) (models ns)

abbrev pub edges_left : ℕ → ℕ → List Numbered → List GateState
edges_left port k ns = map at_rest (edges_from port k (models ns))

pub edges_next : (port k : ℕ) (n : Numbered) (ns : List Numbered) →
    edges_left port k (n ∷ ns) ≡ map at_rest (edge_one port k (numbered_model n).flow) ++ edges_left port (k + 1) ns
unfolding edges_from
edges_next port k n ns = map-append at_rest (edge_one port k (numbered_model n).flow) (edges_from port (k + 1) (models ns))

-- a loop over the flows: with one more, and at the end
pub edges_go : (port k : ℕ) (ns : List Numbered) (d n : Numbered) (made more all : List GateState) → k < length ns → n ≡ get_or ns k d →
    more ≡ made ++ map at_rest (edge_one port k (numbered_model n).flow) →
    made ++ edges_left port k (drop k ns) ≡ all → more ++ edges_left port (k + 1) (drop (k + 1) ns) ≡ all
edges_go port k ns d n made more all less at is so =
    grown made more _ _ all is
    (ap (λ xs. made ++ xs)
    (sym (at_drop_more (edges_left port k) ns k d less ∙ edges_next port k (get_or ns k d) (drop (k + 1) ns)
    ∙ ap (λ (m : Numbered). map at_rest (edge_one port k (numbered_model m).flow) ++ edges_left port (k + 1) (drop (k + 1) ns)) (sym at))) ∙ so)

pub edges_end : (port k : ℕ) (ns : List Numbered) (made all : List GateState) → length ns ≤ k →
    made ++ edges_left port k (drop k ns) ≡ all → made ≡ all
unfolding edges_from
edges_end port k ns made all most so = sym (append-nil made) ∙ ap (λ xs. made ++ xs) (sym (at_drop_all (edges_left port k) ns k most)) ∙ so

-- the loops over ports and classes
pub behind_none : (port from : ℕ) (fs : List FlowModel) (made : List GateState) → made ≡ map at_rest (inside_before port fs from) →
    made ≡ map at_rest (inside_before port fs from ++ inside_behind from port fs 0)
unfolding inside_behind
behind_none port from fs made is = is ∙ ap (map at_rest) (sym (append-nil (inside_before port fs from)))

pub behind_more : (port from class : ℕ) (fs : List FlowModel) (made more : List GateState) →
    more ≡ made ++ map at_rest (inside_one from port class fs) →
    made ≡ map at_rest (inside_before port fs from ++ inside_behind from port fs class) →
    more ≡ map at_rest (inside_before port fs from ++ inside_behind from port fs (class + 1))
unfolding inside_behind
behind_more port from class fs made more is so =
    let next : class + 1 ≡ suc class = omega arith in
    rw next
    (is ∙ ap (λ xs. xs ++ map at_rest (inside_one from port class fs)) so
    ∙ sym (map-append at_rest (inside_before port fs from ++ inside_behind from port fs class) (inside_one from port class fs))
    ∙ ap (map at_rest) (append_assoc (inside_before port fs from) (inside_behind from port fs class) (inside_one from port class fs) ∙ step))
  where
    step : inside_before port fs from ++ (inside_behind from port fs class ++ inside_one from port class fs) ≡
        inside_before port fs from ++ inside_behind from port fs (suc class)
    step = refl

pub before_more : (port from class : ℕ) (fs : List FlowModel) (made : List GateState) → class ≡ 8 →
    made ≡ map at_rest (inside_before port fs from ++ inside_behind from port fs class) →
    made ≡ map at_rest (inside_before port fs (from + 1))
unfolding inside_before
before_more port from class fs made all is =
    let next : from + 1 ≡ suc from = omega arith in
    rw next (is ∙ ap (λ n. map at_rest (inside_before port fs from ++ inside_behind from port fs n)) all ∙ ap (map at_rest) step)
  where
    step : inside_before port fs from ++ inside_behind from port fs 8 ≡ inside_before port fs (suc from)
    step = refl

pub before_none : (port : ℕ) (fs : List FlowModel) → map at_rest (inside_before port fs 0) ≡ []
unfolding inside_before
before_none port fs = refl
