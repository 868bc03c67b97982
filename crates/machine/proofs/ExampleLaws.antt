-- A packet of two ticks leaves two ticks after it was taken. Assumes nothing.
use Rattle.std.proofs.Common.{refl, arith}
use Rattle.flows.specs.FlowFormat.{passes as on_road}
use Rattle.queues.specs.Lines.{taken_from, left_by, sum_over}
use Rattle.machine.specs.Runs.{begins, passes, takes, ticks}
use Rattle.machine.specs.Examples.{two_ticks, LeavesAtTwo}

pub leaves_at_two : LeavesAtTwo
unfolding taken_from left_by sum_over on_road
leaves_at_two = (
  _,
  ticks
      (takes 3 two_ticks
      (passes two_ticks begins
      (record { fitting = record { crosses = refl; class = refl; some = omega arith; short = omega arith }; may = refl }))
      (record { free = refl; first = refl; until = omega arith }))
      (λ none c. cc),
  refl,
  refl,
)
