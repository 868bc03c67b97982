use Rattle.bridge.proofs.PhaseLaws.{leaves_on}
use Rattle.bridge.proofs.egress_port.EgressPort.leave.Goals as goal

pub returns-in_default-clause-laws : goal.returns-in_default-clause-laws
returns-in_default-clause-laws c = leaves_on

pub returns-clause-laws : goal.returns-clause-laws
returns-clause-laws c = leaves_on
