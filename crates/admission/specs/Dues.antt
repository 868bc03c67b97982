-- What the flows of a plan are due, found by their numbers. Assumes nothing.
use Rattle.std.specs.Prelude.{ℕ, cond, List, [], ◌∷◌, take, Some, None, Option, ◌==◌}
use Rattle.std.specs.Option.{option_map}
use Rattle.flows.specs.Flow.{FlowModel}
use Rattle.flows.specs.Models.{flow_of}
use Rattle.promises.specs.Promises.{dues}
use Rattle.admission.specs.declared.due.Dues.{Dues}
use Rattle.admission.specs.Tests.{NumberedModel}
use Rattle.admission.specs.Rules.{flows_of}
use Rattle.admission.specs.Plans.{PlanModel}

-- the first flow of a number
unfoldable pub flow_numbered : List NumberedModel → ℕ → Option FlowModel
flow_numbered [] n = None
flow_numbered (g ∷ gs) n = cond (g.number == n) (Some g.flow) (flow_numbered gs n)

-- the ports of a road, and the ticks that are due up to each
pub record DuesModel : Type 0 where
  pub road : List ℕ
  pub ticks : List ℕ

abbrev pub dues_model : Dues → DuesModel
dues_model d = record { road = (flow_of d.flow).road; ticks = take d.flow.hops d.ticks }

-- what a flow is due with all flows of a plan
abbrev pub dues_in : PlanModel → FlowModel → DuesModel
dues_in p f = record { road = f.road; ticks = dues p.net (flows_of p.flows) f.class 0 f.road }

abbrev pub dues_numbered : PlanModel → ℕ → Option DuesModel
dues_numbered p n = option_map (dues_in p) (flow_numbered p.flows n)
