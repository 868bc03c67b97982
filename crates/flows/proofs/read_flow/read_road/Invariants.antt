use Rattle.std.proofs.Common.{◌≡◌, [], length}
use Rattle.record_bytes.specs.Answers.{cursor}
use Rattle.flows.specs.FlowFormat.{road_from}
use Rattle.flows.specs.Models.{net_of}
use Rattle.flows.proofs.RoadLaws.{Goes}
use Rattle.flows.proofs.read_flow.read_road.Given as goal

abbrev pub invariant-loop-i : goal.invariant-loop-i
invariant-loop-i l =
    (length l.road ≡ 16) ×
    Goes (net_of l.net) l.hops l.i l.road (cursor l.reader) (road_from (net_of l.net) l.hops [] (cursor l.initial.reader))
