-- Each flow has its regulator, and each regulator has a flow. Assumes nothing.
use Rattle.std.proofs.Common.{◌≡◌, ℕ, zero, suc, ◌+◌, ◌<◌, Bool, true, false, cond, eqb, ◌&&◌, List, [], ◌∷◌, length, refl, sym, ap, ◌∙◌, arith, inl, inr}
use Rattle.std.specs.List.{list_any, AllByRecursion as Each}
use Rattle.std.proofs.ByRecursion.{All-append}
use Rattle.std.proofs.lemmas.Bool.{cases_lt, or_left, or_right, and_from, eq-eqb}
use Rattle.std.proofs.lemmas.List.Folds.{list_any-append}
use Rattle.flows.specs.Flow.{FlowModel}
use Rattle.promises.specs.Promises.{regulator_need}
use Rattle.port.specs.Port.{flow_at}
use Rattle.bridge.specs.Ports.{edge, inside}
use Rattle.bridge.specs.Comes.{of_source, of_port}
use Rattle.device.specs.Starts.{begins_at, some_goes, edge_one, edges_from, inside_one, inside_behind, inside_before}
use Rattle.device.specs.Laws.{IsNeeded}

-- at the edge
edge-there : (port j n : ℕ) (f : FlowModel) → begins_at port f.road ≡ true → j ≡ n → list_any (of_source n) (edge_one port j f) ≡ true
edge-there port j n f is same = rw is (or_left (eqb j n) false (eq-eqb j n same))

pub edges_there : (port j k n : ℕ) (fs : List FlowModel) → k < length fs → n ≡ j + k → begins_at port (flow_at fs k).road ≡ true →
    list_any (of_source n) (edges_from port j fs) ≡ true
unfolding edges_from
edges_there port j k n [] less same is = absurd (omega arith)
edges_there port j zero n (f ∷ fs) less same is =
    list_any-append (of_source n) (edge_one port j f) (edges_from port (j + 1) fs)
    ∙ or_left _ _ (edge-there port j n f is (omega arith))
edges_there port j (suc k) n (f ∷ fs) less same is =
    list_any-append (of_source n) (edge_one port j f) (edges_from port (j + 1) fs)
    ∙ or_right _ _ (edges_there port (j + 1) k n fs (omega arith) (omega arith) is)

-- inside
one-there : (q port c : ℕ) (fs : List FlowModel) → some_goes q port c fs ≡ true → list_any (of_port q c) (inside_one q port c fs) ≡ true
one-there q port c fs on = rw on (or_left (eqb q q && eqb c c) false (and_from _ _ (eq-eqb q q refl) (eq-eqb c c refl)))

behind-there : (q port c n : ℕ) (fs : List FlowModel) → c < n → some_goes q port c fs ≡ true →
    list_any (of_port q c) (inside_behind q port fs n) ≡ true
unfolding inside_behind
behind-there q port c zero fs less on = absurd (omega arith)
behind-there q port c (suc n) fs less on =
    list_any-append (of_port q c) (inside_behind q port fs n) (inside_one q port n fs)
    ∙ elim (cases_lt c n) [
      | inl lower ↦ or_left _ _ (behind-there q port c n fs lower on)
      | inr same ↦
          let e : c ≡ n = omega arith in
          or_right _ _ (ap (λ m. list_any (of_port q c) (inside_one q port m fs)) (sym e) ∙ one-there q port c fs on)
    ]

pub before_there : (q port c n : ℕ) (fs : List FlowModel) → q < n → c < 8 → some_goes q port c fs ≡ true →
    list_any (of_port q c) (inside_before port fs n) ≡ true
unfolding inside_before
before_there q port c zero fs less low on = absurd (omega arith)
before_there q port c (suc n) fs less low on =
    list_any-append (of_port q c) (inside_before port fs n) (inside_behind n port fs 8)
    ∙ elim (cases_lt q n) [
      | inl lower ↦ or_left _ _ (before_there q port c n fs lower low on)
      | inr same ↦
          let e : q ≡ n = omega arith in
          or_right _ _ (ap (λ m. list_any (of_port q c) (inside_behind m port fs 8)) (sym e) ∙ behind-there q port c 8 fs low on)
    ]

-- no other: at the edge, where the flows are those of a list from place j on
edges-needed : (port j : ℕ) (all fs : List FlowModel) → length all ≡ j + length fs → ((k : ℕ) → k < length fs → flow_at all (j + k) ≡ flow_at fs k) →
    Each (IsNeeded port all) (edges_from port j fs)
unfolding edges_from
edges-needed port j all [] size same = tt
edges-needed port j all (f ∷ fs) size same =
    All-append (IsNeeded port all) (edge_one port j f) (edges_from port (j + 1) fs) (by (begins_at port f.road) refl)
    (edges-needed port (j + 1) all fs (omega arith) (λ k less. let e : j + 1 + k ≡ j + suc k = omega arith in ap (flow_at all) e ∙ same (suc k) (omega arith)))
  where
    here : flow_at all j ≡ f
    here = let e : j ≡ j + 0 = omega arith in ap (flow_at all) e ∙ same 0 (omega arith)

    by : (b : Bool) → begins_at port f.road ≡ b → Each (IsNeeded port all) (cond b (edge j ∷ []) [])
    by true is = ((omega arith, ap (λ (g : FlowModel). begins_at port g.road) here ∙ is), tt)
    by false is = tt

pub edges_needed : (port : ℕ) (fs : List FlowModel) → Each (IsNeeded port fs) (edges_from port 0 fs)
edges_needed port fs = edges-needed port 0 fs fs (omega arith) (λ k less. let e : 0 + k ≡ k = omega arith in ap (flow_at fs) e)

one-needed : (q port c : ℕ) (fs : List FlowModel) → Each (IsNeeded port fs) (inside_one q port c fs)
one-needed q port c fs = by (some_goes q port c fs) refl
  where
    by : (b : Bool) → some_goes q port c fs ≡ b → Each (IsNeeded port fs) (cond b (inside q c (regulator_need q port c fs) ∷ []) [])
    by true is = ((is, refl), tt)
    by false is = tt

behind-needed : (q port n : ℕ) (fs : List FlowModel) → Each (IsNeeded port fs) (inside_behind q port fs n)
unfolding inside_behind
behind-needed q port zero fs = tt
behind-needed q port (suc n) fs =
    All-append (IsNeeded port fs) (inside_behind q port fs n) (inside_one q port n fs) (behind-needed q port n fs) (one-needed q port n fs)

pub before_needed : (port n : ℕ) (fs : List FlowModel) → Each (IsNeeded port fs) (inside_before port fs n)
unfolding inside_before
before_needed port zero fs = tt
before_needed port (suc n) fs =
    All-append (IsNeeded port fs) (inside_before port fs n) (inside_behind n port fs 8) (before_needed port n fs) (behind-needed n port 8 fs)
