-- The sums that are kept give what the flows need. Assumes nothing.
use Rattle.std.proofs.Common.{◌≡◌, ℕ, zero, suc, ◌+◌, ◌-◌, ◌*◌, ◌/◌, ◌<◌, ◌≤◌, Bool, true, false, cond, ◌&&◌, eqb, List, [], ◌∷◌, get_or, take, unwrap_or, sym, refl, ap, ◌∙◌, ap₂, inl, inr, zero-add, arith}
use Rattle.std.specs.List.{AllByRecursion as Each}
use Rattle.std.proofs.lemmas.List.{take_all}
use Rattle.std.proofs.lemmas.Bool.{false≢true, cases_lt, cases_Bool, lt-ltb, le-ltb, eqb-true, or_cases, or_left, or_right, and_parts, and_from, eq-eqb, ne_eqb}
use Rattle.flows.specs.Net.{NetModel, port_at}
use Rattle.flows.specs.Flow.{FlowModel}
use Rattle.flows.specs.FlowFormat.{passes}
use Rattle.promises.specs.Promises.{den, over, before, rates, bursts, goes, windowed, promise, port_need, regulator_need}
use Rattle.promises.specs.Loads.{LoadModel, no_load, load_with, load_of, pair_of, load_promise, total}
use Rattle.promises.specs.Laws.{Classed, Kept, PairsOf}
use Rattle.promises.proofs.SumLaws.{Sized, sized_with, sized_none, kept-bursts}
use Rattle.promises.proofs.PromiseLaws.{sums_kept, total-none}
use Rattle.promises.proofs.WindowLaws.{window-kept}
use Rattle.memory.specs.Needs.{ticks_within, class_need, class_needs, regulator_needs, whole_need, switch_needs}
use Rattle.memory.specs.Plans.{class_plan, regulator_plan, port_plan, switch_plan, Rated, NeedsKept}

-- the rates of class c over port p
unfoldable pub rates_in : ℕ → ℕ → List FlowModel → ℕ
rates_in p c [] = 0
rates_in p c (f ∷ fs) = cond (over p f && eqb f.class c) f.rate 0 + rates_in p c fs

-- those of lower classes and those of class c are among all
pub rates_among : (p c : ℕ) (fs : List FlowModel) → Each Classed fs → before p c fs + rates_in p c fs ≤ before p 8 fs
unfolding before rates_in
rates_among p c [] low = omega arith
rates_among p c (f ∷ fs) low =
    let more = rates_among p c fs low.1 in
    rw (lt-ltb f.class 8 (omega (arith, low.0)))
    (elim (cases_Bool (over p f)) [
      | inl on ↦ rw on (elim (cases_lt f.class c) [
        | inl below ↦ rw (lt-ltb f.class c below, ne_eqb f.class c (λ e. omega arith)) (omega arith)
        | inr above ↦ rw (le-ltb f.class c above) (elim (cases_Bool (eqb f.class c)) [
          | inl same ↦ rw same (omega arith)
          | inr differs ↦ rw differs (omega arith)
        ])
      ])
      | inr off ↦ rw off (omega arith)
    ])

-- a road that goes on from a port passes it
pub goes_over : (p q : ℕ) (ps : List ℕ) → goes p q ps ≡ true → passes p ps ≡ true
unfolding goes passes
goes_over p q [] e = e
goes_over p q (x ∷ []) e = absurd (false≢true e)
goes_over p q (x ∷ y ∷ ys) e =
    elim (or_cases (eqb x p && eqb y q) (goes p q (y ∷ ys)) e) [
      | inl here ↦ or_left (eqb p x) (passes p (y ∷ ys)) (eq-eqb p x (sym (eqb-true x p (and_parts (eqb x p) (eqb y q) here).0)))
      | inr later ↦ or_right (eqb p x) (passes p (y ∷ ys)) (goes_over p q (y ∷ ys) later)
    ]

-- where no flow of a class goes over a port, nothing comes into the regulators of that class behind it
pub no_window : (p q c w : ℕ) (fs : List FlowModel) → Each Rated fs → rates_in p c fs ≡ 0 → windowed p q c w fs ≡ 0
unfolding windowed rates_in
no_window p q c w [] rated none = refl
no_window p q c w (f ∷ fs) rated none =
    let more = no_window p q c w fs rated.1 (omega arith) in
    by (eqb f.class c && goes p q f.road) refl more
  where
    by : (b : Bool) → (eqb f.class c && goes p q f.road) ≡ b → windowed p q c w fs ≡ 0 →
        cond b (den * f.burst + f.rate * w) 0 + windowed p q c w fs ≡ 0
    by false is more = omega arith
    by true is more =
        let parts = and_parts (eqb f.class c) (goes p q f.road) is in
        let on = and_from (over p f) (eqb f.class c) (goes_over p q f.road parts.1) parts.0 in
        let counted : f.rate + rates_in p c fs ≡ 0 = rw on at none in
        absurd (omega (arith, rated.0))

-- a regulator's need by the sums that are kept
pub class-kept : (p q c : ℕ) (fs : List FlowModel) → Each Classed fs → Each Rated fs → rates p fs ≤ den → c ≤ 7 →
    class_need (load_of p no_load fs) (pair_of p q no_load fs) c ≡ regulator_need p q c fs
class-kept p q c fs low rated room small =
    elim (cases_lt (before p c fs) den) [
      | inl some ↦
          let is = sums_kept p c fs low small some in
          ap (λ o. ticks_within (get_or (pair_of p q no_load fs).bursts c 0) (get_or (pair_of p q no_load fs).rates c 0) (unwrap_or o 0)) is
          ∙ ap (λ n. (n + (den - 1)) / den) (sym (window-kept p q c (promise p c fs) fs low small))
      | inr full ↦
          let among = rates_among p c fs low in
          let none : rates_in p c fs ≡ 0 = omega arith in
          let w : ℕ = unwrap_or (load_promise (load_of p no_load fs) c) 0 in
          ap (λ n. (n + (den - 1)) / den) (sym (window-kept p q c w fs low small) ∙ no_window p q c w fs rated none)
          ∙ sym (ap (λ n. (n + (den - 1)) / den) (no_window p q c (promise p c fs) fs rated none))
    ]

pub sized_of : (p : ℕ) (t : LoadModel) (fs : List FlowModel) → Sized t → Sized (load_of p t fs)
unfolding load_of
sized_of p t [] sized = sized
sized_of p t (f ∷ fs) sized = sized_of p (cond (over p f) (load_with t f) t) fs (by (over p f))
  where
    by : (b : Bool) → Sized (cond b (load_with t f) t)
    by true = sized_with t f sized
    by false = sized

-- what is set aside for a port
port-kept : (q : ℕ) (fs : List FlowModel) → Each Classed fs → total (load_of q no_load fs).bursts ≡ port_need q fs
port-kept q fs low =
    let size = (sized_of q no_load fs sized_none).bursts in
    let all : take 8 (load_of q no_load fs).bursts ≡ (load_of q no_load fs).bursts = take_all 8 (load_of q no_load fs).bursts (omega arith) in
    sym (ap total all) ∙ kept-bursts q 7 no_load fs sized_none low ∙ ap (λ n. n + bursts q 7 fs) (total-none 8 8) ∙ zero-add (bursts q 7 fs)

module _ (loads : List LoadModel) (pairs : List (List LoadModel)) (fs : List FlowModel) (kept : Kept loads fs) (between : PairsOf pairs fs)
    (low : Each Classed fs) (rated : Each Rated fs) (room : (p : ℕ) → rates p fs ≤ den) where
  classes_kept : (p q n : ℕ) → n ≤ 8 → class_needs (load_of p no_load fs) (pair_of p q no_load fs) n ≡ class_plan p q fs n
  unfolding class_needs class_plan
  classes_kept p q zero few = refl
  classes_kept p q (suc n) few =
      ap₂ (λ x y. x + y) (classes_kept p q n (omega arith)) (class-kept p q n fs low rated (room p) (omega arith))

  regulators_kept : (q n : ℕ) → q < 64 → n ≤ 64 → regulator_needs loads pairs q n ≡ regulator_plan q fs n
  unfolding regulator_needs regulator_plan
  regulators_kept q zero port few = refl
  regulators_kept q (suc n) port few =
      ap₂ (λ x y. x + y) (regulators_kept q n port (omega arith))
      (ap₂ (λ x y. class_needs x y 8) (kept n few) (between n q few port) ∙ classes_kept n q 8 (omega arith))

  ports-kept : (q : ℕ) → q < 64 → whole_need loads pairs q ≡ port_plan q fs
  ports-kept q port =
      ap₂ (λ x y. x + y) (ap (λ (t : LoadModel). total t.bursts) (kept q port) ∙ port-kept q fs low) (regulators_kept q 64 port (omega arith))

  switches_kept : (net : NetModel) (s n : ℕ) → n ≤ 64 → switch_needs net loads pairs s n ≡ switch_plan net s fs n
  unfolding switch_needs switch_plan
  switches_kept net s zero few = refl
  switches_kept net s (suc n) few =
      ap₂ (λ x y. x + y) (switches_kept net s n (omega arith)) (ap (λ x. cond (eqb (port_at net n).switch s) x 0) (ports-kept n few))

pub needs_kept : NeedsKept
needs_kept net loads pairs fs kept between low rated room s n few = switches_kept loads pairs fs kept between low rated room net s n few
