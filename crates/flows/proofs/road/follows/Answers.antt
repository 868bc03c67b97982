use Rattle.std.proofs.Common.{arith}
use Rattle.flows.proofs.RoadLaws.{joins-first, joins-last}
use Rattle.flows.proofs.road.follows.Goals as goal

pub returns : goal.returns
returns c = grind (arith, joins-first, joins-last)
