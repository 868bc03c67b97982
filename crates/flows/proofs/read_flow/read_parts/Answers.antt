use Rattle.std.proofs.Common.{◌≤◌, length, take, arith}
use Rattle.std.proofs.lemmas.List.{length-take}
use Rattle.flows.proofs.RoadLaws.{road-places}
use Rattle.flows.proofs.read_flow.read_parts.Goals as goal

pub invariant_of-result-clause-ports_listed : goal.invariant_of-result-clause-ports_listed
invariant_of-result-clause-ports_listed c =
    let net = c.args.net.now in
    let few : length (take net.count net.ports) ≤ 64 = omega (arith, length-take net.count net.ports, net.ports_few) in
    (road-places _ c.in_ok-hops.hops c.in_ok-road.road _ _ few c.in_ok-road.ensures).0

pub invariant_of-result-clause-ports_known : goal.invariant_of-result-clause-ports_known
invariant_of-result-clause-ports_known c =
    let net = c.args.net.now in
    let few : length (take net.count net.ports) ≤ 64 = omega (arith, length-take net.count net.ports, net.ports_few) in
    (road-places _ c.in_ok-hops.hops c.in_ok-road.road _ _ few c.in_ok-road.ensures).1
