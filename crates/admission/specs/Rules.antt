-- The rules of admission, by net and flows alone. Assumes nothing.
use Rattle.std.specs.Prelude.{◌≡◌, ℕ, ◌<◌, ◌≤◌, Bool, cond, List, [], ◌∷◌, ◌++◌, map, length, Some, None, Option, nat_lt, slice_index}
use Rattle.std.specs.List.{AllByRecursion as Each}
use Rattle.std.specs.Option.{option_map}
use Rattle.flows.specs.Net.{NetModel}
use Rattle.flows.specs.Flow.{FlowModel, IsRoad}
use Rattle.promises.specs.Promises.{den, rates, due}
use Rattle.promises.specs.Loads.{LoadModel}
use Rattle.promises.specs.Laws.{Kept, PairsOf}
use Rattle.memory.specs.Plans.{switch_plan}
use Rattle.admission.specs.declared.refusal.Refusal.{Refusal}
use Rattle.admission.specs.declared.refusal.Refusal.TheVariants.{Crowded, Promised, Late, Memory}
use Rattle.admission.specs.Lowest.{lowest}
use Rattle.admission.specs.Tests.{NumberedModel, crowded, first_reason, judged}

-- the flows behind their numbers, in the order of admission
abbrev pub flows_of : List NumberedModel → List FlowModel
flows_of gs = map (λ (g : NumberedModel). g.flow) gs

-- all that a switch needs for these flows
abbrev pub switch_need : NetModel → List FlowModel → ℕ → ℕ
switch_need net fs s = switch_plan net s fs (length net.ports)

abbrev pub memory_of : NetModel → ℕ → ℕ
memory_of net s = slice_index net.memories s

-- What flows that are admitted together have: they are at most 256; no port is promised more than all of itself; every
-- flow is due at its deadline or before; every switch has the memory that it needs.
pub record Fits (net : NetModel) (fs : List FlowModel) : Type 0 where
  pub few : length fs ≤ 256
  pub promised : (p : ℕ) → p < length net.ports → rates p fs ≤ den
  pub punctual : Each (λ f. due net fs f ≤ f.deadline) fs
  pub roomy : (s : ℕ) → s < length net.memories → switch_need net fs s ≤ memory_of net s

-- The first of these that does not hold, in the order 7, 4, 5, 6, and where.
pub data FailsFirst (net : NetModel) (gs : List NumberedModel) : Refusal → Type 0 where
  too_many : 256 < length gs → FailsFirst net gs Crowded
  over_port : (p : ℕ) → length gs ≤ 256 → p < length net.ports → den < rates p (flows_of gs) →
      ((q : ℕ) → q < p → rates q (flows_of gs) ≤ den) → FailsFirst net gs (Promised p)
  late_flow : (before after : List NumberedModel) (g : NumberedModel) → gs ≡ before ++ g ∷ after → length gs ≤ 256 →
      ((p : ℕ) → p < length net.ports → rates p (flows_of gs) ≤ den) → g.flow.deadline < due net (flows_of gs) g.flow →
      Each (λ f. due net (flows_of gs) f ≤ f.deadline) (flows_of before) → FailsFirst net gs (Late g.number)
  short_switch : (s : ℕ) → length gs ≤ 256 → ((p : ℕ) → p < length net.ports → rates p (flows_of gs) ≤ den) →
      Each (λ f. due net (flows_of gs) f ≤ f.deadline) (flows_of gs) → s < length net.memories →
      memory_of net s < switch_need net (flows_of gs) s →
      ((r : ℕ) → r < s → switch_need net (flows_of gs) r ≤ memory_of net r) → FailsFirst net gs (Memory s)

-- 4: a port is promised more than all of itself
abbrev pub is_over : List FlowModel → ℕ → Bool
is_over fs p = nat_lt den (rates p fs)

-- 5: the first flow that is due after its deadline
unfoldable pub first_late_of : NetModel → List FlowModel → List NumberedModel → Option ℕ
first_late_of net fs [] = None
first_late_of net fs (g ∷ gs) = cond (nat_lt g.flow.deadline (due net fs g.flow)) (Some g.number) (first_late_of net fs gs)

-- 6: a switch needs more memory than it has
abbrev pub is_bare : NetModel → List FlowModel → ℕ → Bool
is_bare net fs s = nat_lt (memory_of net s) (switch_need net fs s)

-- the first test that flows fail together, in the order 7, 4, 5, 6
abbrev pub refusal_of : NetModel → List NumberedModel → Option Refusal
refusal_of net gs =
    first_reason (crowded (length gs))
    (first_reason (option_map Promised (lowest (is_over (flows_of gs)) (length net.ports) 0))
    (first_reason (option_map Late (first_late_of net (flows_of gs) gs))
    (option_map Memory (lowest (is_bare net (flows_of gs)) (length net.memories) 0))))

-- flows pass all tests exactly if they fit
abbrev pub Exact : Type 0
Exact =
    (net : NetModel) (gs : List NumberedModel) →
    (refusal_of net gs ≡ None → Fits net (flows_of gs)) × (Fits net (flows_of gs) → refusal_of net gs ≡ None)

-- a refusal names the first that does not hold
abbrev pub NamesFirst : Type 0
NamesFirst = (net : NetModel) (gs : List NumberedModel) (r : Refusal) → refusal_of net gs ≡ Some r → FailsFirst net gs r

-- what the tests take for granted of a flow: a class, a rate, and a road through the net
pub record Routed (net : NetModel) (f : FlowModel) : Type 0 where
  pub class_low : f.class ≤ 7
  pub rate_some : 1 ≤ f.rate
  pub road_some : 1 ≤ length f.road
  pub route : IsRoad net f.road

-- the tests by the sums that are kept are the tests by the flows
abbrev pub JudgedByRules : Type 0
JudgedByRules =
    (net : NetModel) (loads : List LoadModel) (pairs : List (List LoadModel)) (gs : List NumberedModel) →
    length net.ports ≤ 64 → Each (Routed net) (flows_of gs) → Kept loads (flows_of gs) → PairsOf pairs (flows_of gs) →
    judged net (length net.ports) (length net.memories) loads pairs gs ≡ refusal_of net gs
