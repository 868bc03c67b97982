use Rattle.std.proofs.Common.{◌≡◌, true, false, not, ◌&&◌, rules, refl}
use Rattle.std.proofs.lemmas.Result.{err_from_is_err_and}
use Rattle.flows.specs.FlowFormat.{passes, joins}
use Rattle.flows.specs.Models.{net_of}
use Rattle.flows.proofs.RoadLaws.{road_port_by_number}
use Rattle.flows.proofs.read_flow.read_road_port.Goals as goal

pub returns-in_err-port : goal.returns-in_err-port
returns-in_err-port c =
    let p = err_from_is_err_and c.from_residual.result c.from_residual.ensures.1 in
    rw (p.1, p.2, road_port_by_number, ← c.in_err-port.ensures.value) refl

pub returns-then-on_road : goal.returns-then-on_road
returns-then-on_road c =
    let barred : (not (passes c.in_ok-port.port c.args.road.now) && joins (net_of c.args.net.now) c.args.road.now c.in_ok-port.port) ≡ false = search rules in
    rw (road_port_by_number, ← c.in_ok-port.ensures.value, barred) refl

pub returns : goal.returns
returns c =
    let may : (not (passes c.in_ok-port.port c.args.road.now) && joins (net_of c.args.net.now) c.args.road.now c.in_ok-port.port) ≡ true = search rules in
    rw (road_port_by_number, ← c.in_ok-port.ensures.value, may) refl
