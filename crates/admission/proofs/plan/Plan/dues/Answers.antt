use Rattle.std.proofs.Common.{◌≡◌, Some, rules}
use Rattle.flows.specs.Models.{flow_of}
use Rattle.admission.specs.Plans.{plan_of}
use Rattle.admission.specs.Dues.{flow_numbered}
use Rattle.admission.proofs.DueLaws.{dues_told, dues-found}
use Rattle.admission.proofs.plan.Plan.dues.Goals as goal

pub returns-in_err-ticks : goal.returns-in_err-ticks
returns-in_err-ticks c =
    let none = rw c.as_ref.ensures at c.in_err-ticks.ensures in
    absurd (dues_told c.args.self.now _ c.in_ok-flow.flow c.in_ok-flow.ensures none)

pub returns : goal.returns
returns c =
    let plan = c.args.self.now in
    let flow = c.in_ok-flow.flow in
    let found : Some (flow_of flow) ≡ flow_numbered (plan_of plan).flows c.args.number = search (rules, c.in_ok-flow.ensures) in
    let some = rw c.as_ref.ensures at c.in_ok-ticks.ensures in
    dues-found plan c.args.number flow found _ some
