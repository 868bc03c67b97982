-- One more that comes to the first regulator that is its own. Assumes nothing.
use Rattle.std.proofs.Common.{◌≡◌, ℕ, suc, ◌<◌, ◌≤◌, Bool, false, Some, None, Option, Ok, Err, Result, List, [], ◌∷◌, ◌++◌, map, length, get_or, set, take, drop, nat_lt, refl, sym, ap, ◌∙◌, inl, inr, arith}
use Rattle.std.proofs.lemmas.Bool.{cases_Bool, le-ltb, ltb-false}
use Rattle.std.proofs.Math.Seq.{split_at}
use Rattle.std.proofs.lemmas.List.{append_assoc, map-append, set_split, length-take-le, get_or-take}
use Rattle.std.proofs.lemmas.List.Quantifiers.{position-Some}
use Rattle.std.specs.declared.alloc.AllocError.{AllocError}
use Rattle.std.specs.Result.{IsErr, IsErrAnd}
use Rattle.std.specs.List.{position, position_or_len}
use Rattle.std.specs.Option.{ok_or}
use Rattle.lines.specs.declared.packet.Packet.{Packet}
use Rattle.lines.specs.Lines.{waits}
use Rattle.regulators.specs.declared.coming.Coming.{Coming}
use Rattle.regulators.specs.declared.edge_gate.EdgeGate.{EdgeGate}
use Rattle.regulators.specs.declared.inner_gate.InnerGate.{InnerGate}
use Rattle.egress.proofs.PlaceLaws.{each-both}
use Rattle.bridge.specs.declared.come_error.ComeError.{ComeError}
use Rattle.bridge.specs.declared.come_error.ComeError.TheVariants.{NoGate, OutOfMemory}
use Rattle.bridge.specs.declared.regulated.Edge.{Edge}
use Rattle.bridge.specs.declared.regulated.Inside.{Inside}
use Rattle.bridge.specs.Ports.{Stand, edge, inside, GateState}
use Rattle.bridge.specs.Held.{edge_state, inside_state}
use Rattle.bridge.specs.Comes.{of_source, of_port, NoneIs, one_more, ComesTo, ComeMeans}

module _ (own : Stand → Bool) (c : Coming) where
  pub comes-first : (more gates after : List GateState) → ComesTo own c gates after → ComesTo own c (gates ++ more) (after ++ more)
  comes-first more gates after to =
      record {
        earlier = to.earlier;
        gate = to.gate;
        later = to.later ++ more;
        found = ap (λ gs. gs ++ more) to.found ∙ append_assoc to.earlier (to.gate ∷ to.later) more;
        own_is = to.own_is;
        first = to.first;
        comes = ap (λ gs. gs ++ more) to.comes ∙ append_assoc to.earlier (one_more to.gate c ∷ to.later) more;
      }

  pub comes-later : (before gates after : List GateState) → NoneIs own before → ComesTo own c gates after → ComesTo own c (before ++ gates) (before ++ after)
  comes-later before gates after not to =
      record {
        earlier = before ++ to.earlier;
        gate = to.gate;
        later = to.later;
        found = ap (λ gs. before ++ gs) to.found ∙ sym (append_assoc before to.earlier (to.gate ∷ to.later));
        own_is = to.own_is;
        first = each-both (λ (g : GateState). own g.stand ≡ false) before to.earlier not to.first;
        comes = ap (λ gs. before ++ gs) to.comes ∙ sym (append_assoc before to.earlier (one_more to.gate c ∷ to.later));
      }

  module _ {X : Type 0} (state : X → GateState) (p : X → Bool) (is : (x : X) → own (state x).stand ≡ p x) where
    -- none of the first so many
    pub none-of : (xs : List X) (d : X) → ((k : ℕ) → k < length xs → p (get_or xs k d) ≡ false) → NoneIs own (map state xs)
    none-of [] d not = tt
    none-of (x ∷ xs) d not = (is x ∙ not 0 (omega arith), none-of xs d (λ k less. not (suc k) (omega arith)))

    far : (xs : List X) → nat_lt (position_or_len p xs) (length xs) ≡ false → NoneIs own (map state xs)
    far [] all = tt
    far (x ∷ xs) all =
        elim (cases_Bool (p x)) [
          | inl owns ↦ let short : length (x ∷ xs) ≤ 0 = ltb-false 0 (length (x ∷ xs)) (rw owns at all) in absurd (omega arith)
          | inr not ↦
              let more = rw not at all in
              (is x ∙ not, far xs (le-ltb (position_or_len p xs) (length xs) (omega (arith, ltb-false _ _ more))))
        ]

    pub none_found : (xs : List X) → position p xs ≡ None → NoneIs own (map state xs)
    none_found xs none =
        elim (cases_Bool (nat_lt (position_or_len p xs) (length xs))) [
          | inl less ↦ let some : Some (position_or_len p xs) ≡ None = rw less at none in cc
          | inr all ↦ far xs all
        ]

    pub comes_at : (xs : List X) (i : ℕ) (d new : X) → position p xs ≡ Some i → state new ≡ one_more (state (get_or xs i d)) c →
        ComesTo own c (map state xs) (map state (set xs i new))
    comes_at xs i d new found same =
        let there = position-Some p xs i d found in
        let long : length (take i xs) ≡ i = length-take-le i xs (omega arith) in
        record {
          earlier = map state (take i xs);
          gate = state (get_or xs i d);
          later = map state (drop (suc i) xs);
          found = ap (map state) (split_at xs i d there.0) ∙ map-append state (take i xs) (get_or xs i d ∷ drop (suc i) xs);
          own_is = is (get_or xs i d) ∙ there.1;
          first = none-of (take i xs) d (λ k less.
              let below : k < i = omega arith in
              ap p (get_or-take i xs k d below) ∙ there.2 k below);
          comes =
              ap (map state) (set_split xs i new there.0) ∙ map-append state (take i xs) (new ∷ drop (suc i) xs)
              ∙ ap (λ g. map state (take i xs) ++ g ∷ map state (drop (suc i) xs)) same;
        }

    -- nothing has come
    pub as_before : (xs : List X) (i : ℕ) (d new : X) → position p xs ≡ Some i → state new ≡ state (get_or xs i d) → map state (set xs i new) ≡ map state xs
    as_before xs i d new found same =
        let there = position-Some p xs i d found in
        ap (map state) (set_split xs i new there.0) ∙ map-append state (take i xs) (new ∷ drop (suc i) xs)
        ∙ ap (λ g. map state (take i xs) ++ g ∷ map state (drop (suc i) xs)) same
        ∙ sym (ap (map state) (split_at xs i d there.0) ∙ map-append state (take i xs) (get_or xs i d ∷ drop (suc i) xs))

-- it does not come
pub no-gate : (own : Stand → Bool) (c : Coming) (before after : List GateState) (r : Result Unit ComeError) → IsErr r → IsErrAnd r (λ e. e ≡ NoGate) →
    NoneIs own before → after ≡ before → ComeMeans own c before after r
no-gate own c before after (Ok u) err is none same = absurd (cc)
no-gate own c before after (Err e) err is none same = rw is (none, same)

pub no-memory : (own : Stand → Bool) (c : Coming) (before after : List GateState) (r : Result Unit ComeError) (error : AllocError) → IsErr r → IsErrAnd r (λ e. e ≡ OutOfMemory error) →
    after ≡ before → ComeMeans own c before after r
no-memory own c before after (Ok u) error err is same = absurd (cc)
no-memory own c before after (Err e) error err is same = rw is same

pub no-source : (flow : ℕ) (is : List Inside) → NoneIs (of_source flow) (map inside_state is)
no-source flow [] = tt
no-source flow (i ∷ is) = (refl, no-source flow is)

pub no-port : (from class : ℕ) (edges : List Edge) → NoneIs (of_port from class) (map edge_state edges)
no-port from class [] = tt
no-port from class (e ∷ edges) = (refl, no-port from class edges)

pub is-none : (o : Option ℕ) (error : ComeError) → o ≡ None → Err error ≡ ok_or o NoGate → error ≡ NoGate
is-none o error none is = let same : Err error ≡ Err NoGate = rw none at is in cc

-- the regulator with one more, and as it was
pub edge-more : (c : Coming) (d old : Edge) (gate : EdgeGate) → waits gate.cells.items gate.line ≡ waits d.gate.cells.items d.gate.line →
    gate.coming.items ≡ d.gate.coming.items ++ c ∷ [] → d ≡ old → edge_state (record { flow = d.flow; gate = gate }) ≡ one_more (edge_state old) c
edge-more c d old gate same comes is =
    ap (λ (ws : List Packet). let g : GateState = record { stand = edge d.flow; waits = ws; coming = gate.coming.items } in g) same
    ∙ ap (λ (cs : List Coming). let g : GateState = record { stand = edge d.flow; waits = waits d.gate.cells.items d.gate.line; coming = cs } in g) comes
    ∙ ap (λ e. one_more (edge_state e) c) is

pub edge-kept : (d old : Edge) (gate : EdgeGate) → waits gate.cells.items gate.line ≡ waits d.gate.cells.items d.gate.line →
    gate.coming.items ≡ d.gate.coming.items → d ≡ old → edge_state (record { flow = d.flow; gate = gate }) ≡ edge_state old
edge-kept d old gate same comes is =
    ap (λ (ws : List Packet). let g : GateState = record { stand = edge d.flow; waits = ws; coming = gate.coming.items } in g) same
    ∙ ap (λ (cs : List Coming). let g : GateState = record { stand = edge d.flow; waits = waits d.gate.cells.items d.gate.line; coming = cs } in g) comes
    ∙ ap edge_state is

abbrev inside_with : ℕ → ℕ → ℕ → List Packet → List Coming → GateState
inside_with from class aside ws cs = record { stand = inside from class aside; waits = ws; coming = cs }

pub inside-more : (c : Coming) (d old : Inside) (gate : InnerGate) → waits gate.cells.items gate.counted.line ≡ waits d.gate.cells.items d.gate.counted.line →
    gate.aside ≡ d.gate.aside → gate.coming.items ≡ d.gate.coming.items ++ c ∷ [] → d ≡ old →
    inside_state (record { from = d.from; class = d.class; gate = gate }) ≡ one_more (inside_state old) c
inside-more c d old gate same aside comes is =
    ap (λ ws. inside_with d.from d.class gate.aside ws gate.coming.items) same
    ∙ ap (λ n. inside_with d.from d.class n (waits d.gate.cells.items d.gate.counted.line) gate.coming.items) aside
    ∙ ap (inside_with d.from d.class d.gate.aside (waits d.gate.cells.items d.gate.counted.line)) comes
    ∙ ap (λ i. one_more (inside_state i) c) is

pub inside-kept : (d old : Inside) (gate : InnerGate) → waits gate.cells.items gate.counted.line ≡ waits d.gate.cells.items d.gate.counted.line →
    gate.aside ≡ d.gate.aside → gate.coming.items ≡ d.gate.coming.items → d ≡ old →
    inside_state (record { from = d.from; class = d.class; gate = gate }) ≡ inside_state old
inside-kept d old gate same aside comes is =
    ap (λ ws. inside_with d.from d.class gate.aside ws gate.coming.items) same
    ∙ ap (λ n. inside_with d.from d.class n (waits d.gate.cells.items d.gate.counted.line) gate.coming.items) aside
    ∙ ap (inside_with d.from d.class d.gate.aside (waits d.gate.cells.items d.gate.counted.line)) comes
    ∙ ap inside_state is
