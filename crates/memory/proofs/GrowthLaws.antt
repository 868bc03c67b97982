-- One flow more never shortens a due or a need. Assumes nothing.
use Rattle.std.proofs.Common.{◌≡◌, ℕ, zero, suc, ◌+◌, ◌-◌, ◌*◌, ◌/◌, ◌≤◌, Bool, true, false, cond, ◌&&◌, eqb, List, [], ◌∷◌, ◌++◌, inl, inr, arith}
use Rattle.std.specs.List.{AllByRecursion as Each}
use Rattle.std.proofs.lemmas.Nat.{mul-le}
use Rattle.std.proofs.lemmas.Bool.{cases_lt}
use Rattle.flows.specs.Net.{NetModel, port_at}
use Rattle.flows.specs.Flow.{FlowModel}
use Rattle.promises.specs.Promises.{den, before, rates, due_over, goes, windowed, promise, regulator_need}
use Rattle.promises.specs.Laws.{Classed}
use Rattle.promises.proofs.PromiseLaws.{quotient_grows, more-bursts, more-long, never-shorter}
use Rattle.memory.specs.Plans.{class_plan, regulator_plan, port_plan, switch_plan, Rated}
use Rattle.memory.specs.Growth.{DueGrows, QueueGrows, PortGrows, RegulatorGrows, SwitchGrows, GrowthLaws}
use Rattle.memory.proofs.NeedLaws.{rates_in, rates_among, no_window}

due-grows : DueGrows
unfolding due_over
due-grows net fs gs f c [] room = omega arith
due-grows net fs gs f c (p ∷ []) room = never-shorter p c fs gs f room.0
due-grows net fs gs f c (p ∷ q ∷ ps) room =
    let here = never-shorter p c fs gs f room.0 in
    let rest = due-grows net fs gs f c (q ∷ ps) room.1 in
    omega arith

queue-grows : QueueGrows
queue-grows p c fs gs f = omega (arith, more-long p c fs gs f, more-bursts p c fs gs f)

port-grows : PortGrows
port-grows p fs gs f = more-bursts p 7 fs gs f

-- more may come within a longer window
window-longer : (p q c w v : ℕ) (fs : List FlowModel) → w ≤ v → windowed p q c w fs ≤ windowed p q c v fs
unfolding windowed
window-longer p q c w v [] longer = omega arith
window-longer p q c w v (f ∷ fs) longer =
    by (eqb f.class c && goes p q f.road) (window-longer p q c w v fs longer)
  where
    by : (b : Bool) → windowed p q c w fs ≤ windowed p q c v fs →
        cond b (den * f.burst + f.rate * w) 0 + windowed p q c w fs ≤ cond b (den * f.burst + f.rate * v) 0 + windowed p q c v fs
    by true more = omega (arith, mul-le f.rate w f.rate v (omega arith) longer)
    by false more = omega arith

-- and of more flows
window_more : (p q c w : ℕ) (fs gs : List FlowModel) (f : FlowModel) → windowed p q c w (fs ++ gs) ≤ windowed p q c w (fs ++ f ∷ gs)
unfolding windowed
window_more p q c w [] gs f = omega arith
window_more p q c w (g ∷ fs) gs f = let more = window_more p q c w fs gs f in omega arith

-- ticks, rounded up once
rounded_up : (x y : ℕ) → x ≤ y → (x + (den - 1)) / den ≤ (y + (den - 1)) / den
rounded_up x y more = quotient_grows (x + (den - 1)) (y + (den - 1)) den den (omega arith) (omega arith) (omega arith)

regulator-grows : RegulatorGrows
regulator-grows p q c fs gs f room =
    let w = promise p c (fs ++ gs) in
    let v = promise p c (fs ++ f ∷ gs) in
    let longer = window-longer p q c w v (fs ++ gs) (never-shorter p c fs gs f room) in
    let more = window_more p q c v fs gs f in
    rounded_up (windowed p q c w (fs ++ gs)) (windowed p q c v (fs ++ f ∷ gs)) (omega arith)

module _ (fs gs : List FlowModel) (f : FlowModel) (low : Each Classed (fs ++ f ∷ gs)) (rated : Each Rated (fs ++ f ∷ gs))
    (room : (p : ℕ) → rates p (fs ++ f ∷ gs) ≤ den) where
  -- where a class has no promise, none of its flows goes over the port
  class-grows : (p q c : ℕ) → regulator_need p q c (fs ++ gs) ≤ regulator_need p q c (fs ++ f ∷ gs)
  class-grows p q c =
      elim (cases_lt (before p c (fs ++ f ∷ gs)) den) [
        | inl some ↦ regulator-grows p q c fs gs f some
        | inr full ↦
            let w = promise p c (fs ++ gs) in
            let v = promise p c (fs ++ f ∷ gs) in
            let none : rates_in p c (fs ++ f ∷ gs) ≡ 0 = omega (arith, rates_among p c (fs ++ f ∷ gs) low, room p) in
            let more = window_more p q c w fs gs f in
            let nothing = no_window p q c w (fs ++ f ∷ gs) rated none in
            rounded_up (windowed p q c w (fs ++ gs)) (windowed p q c v (fs ++ f ∷ gs)) (omega arith)
      ]

  classes_grow : (p q n : ℕ) → class_plan p q (fs ++ gs) n ≤ class_plan p q (fs ++ f ∷ gs) n
  unfolding class_plan
  classes_grow p q zero = omega arith
  classes_grow p q (suc n) = omega (arith, classes_grow p q n, class-grows p q n)

  regulators_grow : (q n : ℕ) → regulator_plan q (fs ++ gs) n ≤ regulator_plan q (fs ++ f ∷ gs) n
  unfolding regulator_plan
  regulators_grow q zero = omega arith
  regulators_grow q (suc n) = omega (arith, regulators_grow q n, classes_grow n q 8)

  switches_grow : (net : NetModel) (s n : ℕ) → switch_plan net s (fs ++ gs) n ≤ switch_plan net s (fs ++ f ∷ gs) n
  unfolding switch_plan
  switches_grow net s zero = omega arith
  switches_grow net s (suc n) = by (eqb (port_at net n).switch s) (switches_grow net s n)
    where
      by : (b : Bool) → switch_plan net s (fs ++ gs) n ≤ switch_plan net s (fs ++ f ∷ gs) n →
          switch_plan net s (fs ++ gs) n + cond b (port_plan n (fs ++ gs)) 0 ≤ switch_plan net s (fs ++ f ∷ gs) n + cond b (port_plan n (fs ++ f ∷ gs)) 0
      by true more = omega (arith, port-grows n fs gs f, regulators_grow n 64)
      by false more = omega arith

switch-grows : SwitchGrows
switch-grows net s fs gs f low rated room n = switches_grow fs gs f low rated room net s n

pub growth_laws : GrowthLaws
growth_laws = record { due = due-grows; queue = queue-grows; port = port-grows; regulator = regulator-grows; switch = switch-grows }
