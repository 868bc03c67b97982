use Rattle.egress.proofs.EgressLaws.{egress_laws}
use Rattle.egress.proofs.clock.next_tick.Goals as goal

pub returns-in_err-next-clause-laws : goal.returns-in_err-next-clause-laws
returns-in_err-next-clause-laws c = egress_laws

pub returns-in_err-checked_add-clause-laws : goal.returns-in_err-checked_add-clause-laws
returns-in_err-checked_add-clause-laws c = egress_laws

pub returns-clause-laws : goal.returns-clause-laws
returns-clause-laws c = egress_laws
