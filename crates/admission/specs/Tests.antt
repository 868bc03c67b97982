-- The tests of admission, by the sums that are kept. Assumes nothing.
use Rattle.std.specs.Prelude.{ℕ, ◌-◌, Bool, true, cond, List, [], ◌∷◌, length, Some, None, Option, nat_lt, slice_index, slice_index_or}
use Rattle.std.specs.Option.{option_map}
use Rattle.flows.specs.Net.{NetModel}
use Rattle.flows.specs.Flow.{FlowModel}
use Rattle.promises.specs.Promises.{den}
use Rattle.promises.specs.Loads.{LoadModel, no_load, total, loads_dues}
use Rattle.memory.specs.Needs.{switch_needs}
use Rattle.admission.specs.declared.refusal.Refusal.{Refusal}
use Rattle.admission.specs.declared.refusal.Refusal.TheVariants.{Road, Crowded, Promised, Late, Memory}
use Rattle.admission.specs.Lowest.{lowest}

-- a flow and its number
pub record NumberedModel : Type 0 where
  pub number : ℕ
  pub flow : FlowModel

-- the number of each refusal
abbrev pub refusal_number : Refusal → ℕ
refusal_number Road = 3
refusal_number Crowded = 7
refusal_number (Promised port) = 4
refusal_number (Late flow) = 5
refusal_number (Memory switch) = 6

-- 4: a port is promised more than all of itself
abbrev pub over_promised : List LoadModel → ℕ → Bool
over_promised loads p = nat_lt den (total (slice_index_or loads p no_load).rates)

-- 5: a flow is due after its deadline, or has no due at all
abbrev pub late_by : ℕ → ℕ → Option (List ℕ) → Bool
late_by deadline hops None = true
late_by deadline hops (Some dues) = nat_lt deadline (slice_index dues (hops - 1))

abbrev pub is_late : NetModel → List LoadModel → FlowModel → Bool
is_late net loads f = late_by f.deadline (length f.road) (loads_dues net loads f.class 0 f.road)

-- the first such, in the order of admission
unfoldable pub first_late : NetModel → List LoadModel → List NumberedModel → Option ℕ
first_late net loads [] = None
first_late net loads (g ∷ gs) = cond (is_late net loads g.flow) (Some g.number) (first_late net loads gs)

-- 6: a switch has not enough memory
abbrev pub is_short : NetModel → List LoadModel → List (List LoadModel) → ℕ → ℕ → Bool
is_short net loads pairs count s = nat_lt (slice_index net.memories s) (switch_needs net loads pairs s count)

-- the first of two refusals
abbrev pub first_reason : Option Refusal → Option Refusal → Option Refusal
first_reason None second = second
first_reason (Some r) second = Some r

-- 7: more than 256 flows
abbrev pub crowded : ℕ → Option Refusal
crowded n = cond (nat_lt 256 n) (Some Crowded) None

-- the first test that flows fail together, in the order 7, 4, 5, 6: for a net of so many ports and switches
abbrev pub judged : NetModel → ℕ → ℕ → List LoadModel → List (List LoadModel) → List NumberedModel → Option Refusal
judged net ports switches loads pairs gs =
    first_reason (crowded (length gs))
    (first_reason (option_map Promised (lowest (over_promised loads) ports 0))
    (first_reason (option_map Late (first_late net loads gs))
    (option_map Memory (lowest (is_short net loads pairs ports) switches 0))))
