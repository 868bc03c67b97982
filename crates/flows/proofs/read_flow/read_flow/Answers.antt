use Rattle.std.proofs.Common.{arith}
use Rattle.std.proofs.lemmas.List.{length-take}
use Rattle.flows.proofs.FlowLaws.{flow_format}
use Rattle.flows.proofs.read_flow.read_flow.Goals as goal

pub returns-in_err-flow-clause-format : goal.returns-in_err-flow-clause-format
returns-in_err-flow-clause-format c =
    let net = c.args.net.now in
    flow_format _ (omega (arith, length-take net.count net.ports, net.ports_few))

pub returns-clause-format : goal.returns-clause-format
returns-clause-format c =
    let net = c.args.net.now in
    flow_format _ (omega (arith, length-take net.count net.ports, net.ports_few))
