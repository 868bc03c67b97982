use Rattle.network.proofs.NetworkLaws.{network_laws}
use Rattle.network.proofs.arrival.Goals as goal

pub returns-clause-laws : goal.returns-clause-laws
returns-clause-laws c = network_laws
