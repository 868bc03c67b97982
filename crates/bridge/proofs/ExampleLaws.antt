-- The worked tick. Assumes nothing.
use Rattle.std.proofs.Common.{refl}
use Rattle.regulators.specs.Judged.{judged}
use Rattle.gates.specs.Gates.{opened}
use Rattle.queues.specs.Lines.{sum_over, taken_from, left_by}
use Rattle.bridge.specs.Ports.{gates_tick}
use Rattle.bridge.specs.Examples.{Worked}

pub worked : Worked
unfolding gates_tick judged opened sum_over taken_from left_by
worked = record { refused = refl; taken = refl; queued = refl; busy = refl; left = refl; idle = refl }
