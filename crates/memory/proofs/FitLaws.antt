-- Promises and needs of flows that can be admitted fit 64 bits. Assumes nothing.
use Rattle.std.proofs.Common.{◌≡◌, ℕ, zero, suc, ◌+◌, ◌-◌, ◌*◌, ◌<◌, ◌≤◌, Bool, true, false, cond, ◌&&◌, eqb, leb, ltb, List, [], ◌∷◌, length, get_or, refl, ap₂, ◌∙◌, inl, inr, add-mul, div-mul-le_self, arith}
use Rattle.std.proofs.Math.Nat.{div-le_of_le-mul, div-le_self}
use Rattle.std.specs.List.{AllByRecursion as Each}
use Rattle.std.proofs.lemmas.Nat.{mul-le}
use Rattle.std.proofs.lemmas.Bool.{cases_lt, and_parts, and_from}
use Rattle.flows.specs.Net.{NetModel, port_at}
use Rattle.flows.specs.Flow.{FlowModel}
use Rattle.promises.specs.Promises.{den, over, before, bursts, long, goes, windowed, promise, regulator_need}
use Rattle.promises.specs.Loads.{no_load, pair_at}
use Rattle.promises.specs.Laws.{Bounded}
use Rattle.memory.specs.Needs.{class_need}
use Rattle.memory.specs.Plans.{class_plan, regulator_plan, port_plan, switch_plan}
use Rattle.memory.specs.Fit.{Short, Admissible, PromiseFits, WindowFits, SwitchFits, NeedsFit, AsideKept}
use Rattle.memory.proofs.NeedLaws.{rates_in, rates_among, goes_over, no_window, class-kept}

-- a number that counts or not
part : (b : Bool) (x : ℕ) → cond b x 0 ≤ x
part true x = omega arith
part false x = omega arith

-- all bursts
bursts-within : (p c : ℕ) (fs : List FlowModel) → Each Bounded fs → bursts p c fs ≤ 65535 * length fs
unfolding bursts
bursts-within p c [] bounded = omega arith
bursts-within p c (f ∷ fs) bounded = omega (arith, bursts-within p c fs bounded.1, part (over p f && leb f.class c) f.burst, bounded.0.0)

long-within : (p c : ℕ) (fs : List FlowModel) → Each Short fs → long p c fs ≤ 255
unfolding long
long-within p c [] short = omega arith
long-within p c (f ∷ fs) short = omega (arith, long-within p c fs short.1, part (over p f && ltb c f.class) f.longest, short.0)

-- what comes within a window: at most all bursts, and what the rates of that class bring
window-within : (p q c w : ℕ) (fs : List FlowModel) → Each Bounded fs → windowed p q c w fs ≤ den * (65535 * length fs) + rates_in p c fs * w
unfolding windowed rates_in
window-within p q c w [] bounded = omega arith
window-within p q c w (f ∷ fs) bounded =
    by (eqb f.class c && goes p q f.road) refl (window-within p q c w fs bounded.1)
  where
    R : ℕ
    R = rates_in p c fs

    by : (b : Bool) → (eqb f.class c && goes p q f.road) ≡ b → windowed p q c w fs ≤ den * (65535 * length fs) + R * w →
        cond b (den * f.burst + f.rate * w) 0 + windowed p q c w fs ≤
        den * (65535 * suc (length fs)) + (cond (over p f && eqb f.class c) f.rate 0 + R) * w
    by true is more =
        let parts = and_parts (eqb f.class c) (goes p q f.road) is in
        let on = and_from (over p f) (eqb f.class c) (goes_over p q f.road parts.1) parts.0 in
        rw on (omega (arith, add-mul f.rate R w, bounded.0.0))
    by false is more =
        omega (arith, mul-le R w (cond (over p f && eqb f.class c) f.rate 0 + R) w (omega arith) (omega arith))

module _ (fs : List FlowModel) (admissible : Admissible fs) where
  asked-within : (p c : ℕ) → long p c fs + bursts p c fs ≤ 16777215
  asked-within p c =
      omega (arith, long-within p c fs admissible.short, bursts-within p c fs admissible.bounded, admissible.few)

  promise-within : (p c : ℕ) → promise p c fs ≤ 16777215 * den
  promise-within p c =
      omega (arith, asked-within p c, div-le_self ((long p c fs + bursts p c fs) * den) (den - before p c fs))

  -- within its promise a class sends no more than what the promise was counted from
  rates-within : (p c : ℕ) → before p c fs < den → rates_in p c fs * promise p c fs ≤ (long p c fs + bursts p c fs) * den
  rates-within p c some =
      let left = den - before p c fs in
      let whole = div-mul-le_self ((long p c fs + bursts p c fs) * den) left in
      let few : rates_in p c fs ≤ left = omega (arith, rates_among p c fs admissible.classed, admissible.room p) in
      omega (arith, mul-le (rates_in p c fs) (promise p c fs) left (promise p c fs) few (omega arith))

  windows-within : (p q c : ℕ) → windowed p q c (promise p c fs) fs ≤ 33554175 * den
  windows-within p q c =
      elim (cases_lt (before p c fs) den) [
        | inl some ↦
            omega (arith, window-within p q c (promise p c fs) fs admissible.bounded, rates-within p c some, asked-within p c, admissible.few)
        | inr full ↦
            let none : rates_in p c fs ≡ 0 = omega (arith, rates_among p c fs admissible.classed, admissible.room p) in
            omega (arith, no_window p q c (promise p c fs) fs admissible.rated none)
      ]

  regulator-within : (p q c : ℕ) → regulator_need p q c fs ≤ 33554176
  regulator-within p q c = div-le_of_le-mul den (omega (arith, windows-within p q c))

  classes-within : (p q n : ℕ) → class_plan p q fs n ≤ 33554176 * n
  unfolding class_plan
  classes-within p q zero = omega arith
  classes-within p q (suc n) = omega (arith, classes-within p q n, regulator-within p q n)

  regulators-within : (q n : ℕ) → regulator_plan q fs n ≤ 268433408 * n
  unfolding regulator_plan
  regulators-within q zero = omega arith
  regulators-within q (suc n) = omega (arith, regulators-within q n, classes-within n q 8)

  port-within : (q : ℕ) → port_plan q fs ≤ 17196515072
  port-within q = omega (arith, bursts-within q 7 fs admissible.bounded, admissible.few, regulators-within q 64)

  switch-within : (net : NetModel) (s n : ℕ) → switch_plan net s fs n ≤ 17196515072 * n
  unfolding switch_plan
  switch-within net s zero = omega arith
  switch-within net s (suc n) = omega (arith, switch-within net s n, part (eqb (port_at net n).switch s) (port_plan n fs), port-within n)

promise_fits : PromiseFits
promise_fits p c fs admissible some = omega (arith, promise-within fs admissible p c)

window_fits : WindowFits
window_fits p q c fs admissible = omega (arith, windows-within fs admissible p q c)

switch_fits : SwitchFits
switch_fits net s n fs admissible few = omega (arith, switch-within fs admissible net s n)

pub needs_fit : NeedsFit
needs_fit = record { promise = promise_fits; window = window_fits; switch = switch_fits }

pub aside_kept : AsideKept
aside_kept loads pairs fs kept between admissible p q c first second low =
    let is : class_need (get_or loads p no_load) (pair_at pairs p q) c ≡ regulator_need p q c fs =
    ap₂ (λ x y. class_need x y c) (kept p first) (between p q first second)
    ∙ class-kept p q c fs admissible.classed admissible.rated (admissible.room p) low in
    let small = regulator-within fs admissible p q c in
    omega arith
