use Rattle.device.proofs.PlanLaws.{plan_laws}
use Rattle.device.proofs.port_of.port_of.Goals as goal

pub returns-in_err-edges-clause-laws : goal.returns-in_err-edges-clause-laws
returns-in_err-edges-clause-laws c = plan_laws c.args.plan.now c.args.port

pub returns-in_err-inside-clause-laws : goal.returns-in_err-inside-clause-laws
returns-in_err-inside-clause-laws c = plan_laws c.args.plan.now c.args.port

pub returns-in_err-levels-clause-laws : goal.returns-in_err-levels-clause-laws
returns-in_err-levels-clause-laws c = plan_laws c.args.plan.now c.args.port

pub returns-clause-laws : goal.returns-clause-laws
returns-clause-laws c = plan_laws c.args.plan.now c.args.port
