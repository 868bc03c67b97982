use Rattle.port.proofs.PortLaws.{port_laws}
use Rattle.port.proofs.gone.gone.Goals as goal

pub returns-clause-law : goal.returns-clause-law
returns-clause-law c = port_laws
