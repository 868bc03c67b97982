use Rattle.machine.proofs.MachineLaws.{machine_laws}
use Rattle.machine.proofs.phases.take.Goals as goal

pub returns-then-is_some-clause-laws : goal.returns-then-is_some-clause-laws
returns-then-is_some-clause-laws c = machine_laws

pub returns-clause-laws : goal.returns-clause-laws
returns-clause-laws c = machine_laws
