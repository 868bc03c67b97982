use Rattle.script.specs.SessionLaws.{RefusedOnlyCounts, CutIsRefused, AdmittedStays, PlanSettled}
use Rattle.script.proofs.StepLaws.{refused_only_counts, cut_is_refused}
use Rattle.script.proofs.PlanLaws.{admitted_stays, plan_settled}
use Rattle.script.proofs.session.Session.take.Goals as goal

step_laws : RefusedOnlyCounts × CutIsRefused × AdmittedStays × PlanSettled
step_laws = (refused_only_counts, cut_is_refused, admitted_stays, plan_settled)

pub returns-in_err-line-clause-laws : goal.returns-in_err-line-clause-laws
returns-in_err-line-clause-laws c = step_laws

pub returns-clause-laws : goal.returns-clause-laws
returns-clause-laws c = step_laws
