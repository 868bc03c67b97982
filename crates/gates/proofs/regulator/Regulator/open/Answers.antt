use Rattle.gates.proofs.GateLaws.{gate_laws}
use Rattle.gates.proofs.regulator.Regulator.open.Goals as goal

pub returns-clause-laws : goal.returns-clause-laws
returns-clause-laws c = gate_laws
