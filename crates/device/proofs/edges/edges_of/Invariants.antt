use Rattle.std.proofs.Common.{◌≡◌, ◌++◌, map, drop, vec_items}
use Rattle.bridge.specs.Held.{edge_state}
use Rattle.device.proofs.StartLaws.{edges_left}
use Rattle.device.proofs.edges.edges_of.Given as goal

abbrev pub invariant-loop-place : goal.invariant-loop-place
invariant-loop-place l = map edge_state (vec_items l.edges) ++ edges_left l.port l.place (drop l.place l.flows) ≡ edges_left l.port 0 l.flows
