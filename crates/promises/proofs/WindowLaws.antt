-- What may come into a regulator, from sums that are kept. Assumes nothing.
use Rattle.std.proofs.Common.{◌≡◌, ℕ, ◌+◌, ◌*◌, ◌<◌, ◌≤◌, Bool, true, false, cond, ◌&&◌, eqb, List, [], ◌∷◌, length, get_or, set, sym, refl, ap, ◌∙◌, ap₂, add-zero, add_assoc, add-mul, zero-add, arith}
use Rattle.std.specs.List.{AllByRecursion as Each}
use Rattle.std.proofs.lemmas.List.{get_or-set_same, get_or-set_other}
use Rattle.std.proofs.lemmas.Bool.{eqb-true, eqb-false}
use Rattle.flows.specs.Flow.{FlowModel}
use Rattle.promises.specs.Promises.{den, goes, windowed}
use Rattle.promises.specs.Loads.{LoadModel, no_load, load_with, pair_of}
use Rattle.promises.specs.Laws.{Classed, WindowKept}
use Rattle.promises.proofs.SumLaws.{Sized, sized_with, sized_none, zeros}

-- place c of a table, after v was added at place k
place_set : (xs : List ℕ) (k c v : ℕ) (b : Bool) → eqb k c ≡ b → k < length xs → get_or (set xs k (get_or xs k 0 + v)) c 0 ≡ get_or xs c 0 + cond b v 0
place_set xs k c v true same room =
    let is : k ≡ c = eqb-true k c same in
    ap (λ x. get_or (set xs k (get_or xs k 0 + v)) x 0) (sym is) ∙ get_or-set_same xs k (get_or xs k 0 + v) 0 room ∙ ap (λ x. get_or xs x 0 + v) is
place_set xs k c v false differs room =
    get_or-set_other xs k c (get_or xs k 0 + v) 0 (λ e. eqb-false k c differs (sym e)) ∙ sym (add-zero (get_or xs c 0))

-- what a table allows within a window
abbrev allowed : LoadModel → ℕ → ℕ → ℕ
allowed t c w = den * get_or t.bursts c 0 + get_or t.rates c 0 * w

allowed_with : (t : LoadModel) (f : FlowModel) (c w : ℕ) (b : Bool) → eqb f.class c ≡ b → Sized t → f.class ≤ 7 →
    allowed (load_with t f) c w ≡ allowed t c w + cond b (den * f.burst + f.rate * w) 0
allowed_with t f c w true same sized low =
    let B = get_or t.bursts c 0 in
    let R = get_or t.rates c 0 in
    let more = add-mul R f.rate w in
    ap₂ (λ x y. den * x + y * w)
    (place_set t.bursts f.class c f.burst true same (omega (arith, sized.bursts)))
    (place_set t.rates f.class c f.rate true same (omega (arith, sized.rates)))
    ∙ ap (λ n. den * (B + f.burst) + n) more ∙ regroup B f.burst (R * w) (f.rate * w)
  where
    regroup : (a b d e : ℕ) → den * (a + b) + (d + e) ≡ den * a + d + (den * b + e)
    regroup a b d e = omega arith
allowed_with t f c w false differs sized low =
    ap₂ (λ x y. den * x + y * w)
    (place_set t.bursts f.class c f.burst false differs (omega (arith, sized.bursts)) ∙ add-zero (get_or t.bursts c 0))
    (place_set t.rates f.class c f.rate false differs (omega (arith, sized.rates)) ∙ add-zero (get_or t.rates c 0))
    ∙ sym (add-zero (allowed t c w))

window-from : (p q c w : ℕ) (t : LoadModel) (fs : List FlowModel) → Sized t → Each Classed fs →
    allowed (pair_of p q t fs) c w ≡ allowed t c w + windowed p q c w fs
unfolding pair_of windowed
window-from p q c w t [] sized low = sym (add-zero (allowed t c w))
window-from p q c w t (f ∷ fs) sized low =
    by (goes p q f.road) (eqb f.class c) refl (λ u known. window-from p q c w u fs known low.1)
  where
    W : ℕ
    W = den * f.burst + f.rate * w

    by : (g b : Bool) → eqb f.class c ≡ b → ((u : LoadModel) → Sized u → allowed (pair_of p q u fs) c w ≡ allowed u c w + windowed p q c w fs) →
        allowed (pair_of p q (cond g (load_with t f) t) fs) c w ≡ allowed t c w + (cond (b && g) W 0 + windowed p q c w fs)
    by true true same more =
        more (load_with t f) (sized_with t f sized) ∙ ap (λ n. n + windowed p q c w fs) (allowed_with t f c w true same sized low.0) ∙ add_assoc _ _ _
    by true false differs more =
        more (load_with t f) (sized_with t f sized) ∙ ap (λ n. n + windowed p q c w fs) (allowed_with t f c w false differs sized low.0) ∙ add_assoc _ _ _
    by false true same more = more t sized ∙ ap (λ n. allowed t c w + n) (sym (zero-add (windowed p q c w fs)))
    by false false differs more = more t sized ∙ ap (λ n. allowed t c w + n) (sym (zero-add (windowed p q c w fs)))

pub window-kept : WindowKept
window-kept p q c w fs low small =
    sym (window-from p q c w no_load fs sized_none low ∙ ap (λ n. n + windowed p q c w fs) (nothing c w) ∙ zero-add (windowed p q c w fs))
  where
    none : (w : ℕ) → den * 0 + 0 * w ≡ 0
    none w = omega arith

    nothing : (c w : ℕ) → allowed no_load c w ≡ 0
    nothing c w = ap₂ (λ x y. den * x + y * w) (zeros 8 c) (zeros 8 c) ∙ none w
