use Rattle.std.proofs.Common.{◌≡◌, length}
use Rattle.flows.specs.Models.{net_of}
use Rattle.flows.specs.Roads.{leads}
use Rattle.flows.proofs.net.Net.has_road.Given as goal

abbrev pub invariant-loop-port : goal.invariant-loop-port
invariant-loop-port l = leads (net_of l.self) l.rest ≡ leads (net_of l.self) l.road

abbrev pub decreases-loop-port : goal.decreases-loop-port
decreases-loop-port l = length l.rest
