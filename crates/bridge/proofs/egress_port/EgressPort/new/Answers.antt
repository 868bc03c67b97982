use Rattle.bridge.proofs.StartLaws.{starts-with}
use Rattle.bridge.proofs.egress_port.EgressPort.new.Goals as goal

pub returns-clause-starts : goal.returns-clause-starts
returns-clause-starts c = starts-with _ _
