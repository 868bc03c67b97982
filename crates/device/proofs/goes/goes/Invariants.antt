use Rattle.std.proofs.Common.{◌≡◌, length}
use Rattle.promises.specs.Promises.{goes}
use Rattle.device.proofs.goes.goes.Given as goal

abbrev pub invariant-loop-port : goal.invariant-loop-port
invariant-loop-port l = goes l.from l.to l.rest ≡ goes l.from l.to l.road

abbrev pub decreases-loop-port : goal.decreases-loop-port
decreases-loop-port l = length l.rest
