-- A plan: a net, and the flows that are admitted to it. Assumes nothing.
use Rattle.std.specs.Prelude.{◌≡◌, cond, List, [], ◌∷◌, ◌++◌, map, Some, None, Ok, Err, vec_items, Option, Result}
use Rattle.flows.specs.Net.{NetModel}
use Rattle.flows.specs.Roads.{leads}
use Rattle.flows.specs.Models.{net_of}
use Rattle.admission.specs.declared.refusal.Refusal.{Refusal}
use Rattle.admission.specs.declared.refusal.Refusal.TheVariants.{Road}
use Rattle.admission.specs.declared.refusal.NotAdmitted.{NotAdmitted}
use Rattle.admission.specs.declared.refusal.NotAdmitted.TheVariants.{Refused, OutOfMemory}
use Rattle.admission.specs.declared.plan.Plan.{Plan}
use Rattle.admission.specs.Models.{numbered_model}
use Rattle.admission.specs.Tests.{NumberedModel}
use Rattle.admission.specs.Rules.{refusal_of}

-- the flows in the order in which they were admitted
pub record PlanModel : Type 0 where
  pub net : NetModel
  pub flows : List NumberedModel

abbrev pub plan_of : Plan → PlanModel
plan_of p = record { net = net_of p.net; flows = map numbered_model (vec_items p.flows) }

abbrev pub empty_plan : NetModel → PlanModel
empty_plan net = record { net = net; flows = [] }

-- a plan and one flow more
abbrev pub with_flow : PlanModel → NumberedModel → PlanModel
with_flow p g = record { net = p.net; flows = p.flows ++ g ∷ [] }

-- the first test that a flow fails, alone or with those admitted before it
abbrev pub tested : PlanModel → NumberedModel → Option Refusal
tested p g = cond (leads p.net g.flow.road) (refusal_of p.net (p.flows ++ g ∷ [])) (Some Road)

-- A flow is admitted exactly if it passes all tests. Where it is refused, or memory is wanting, the plan stays as it was.
abbrev pub Answered : PlanModel → NumberedModel → PlanModel → Result (Unit {0}) NotAdmitted → Type 0
Answered before g after (Ok _) = (tested before g ≡ None) × (after ≡ with_flow before g)
Answered before g after (Err (Refused r)) = (tested before g ≡ Some r) × (after ≡ before)
Answered before g after (Err (OutOfMemory error)) = after ≡ before
