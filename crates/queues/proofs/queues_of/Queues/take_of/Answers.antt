use Rattle.std.proofs.Common.{arith}
use Rattle.queues.proofs.TakeLaws.{first_is_cell, ticks_enough, free-fits, took_holds}
use Rattle.queues.proofs.queues_of.Queues.take_of.Goals as goal

pub returns-in_err-ticks-clause-first : goal.returns-in_err-ticks-clause-first
returns-in_err-ticks-clause-first c lowest lines held =
    absurd (c.in_err-ticks.ensures (rw c.from.ensures (ticks_enough c.args.self.now c.args.cells.now lines held c.args.class lowest.within lowest.found)))

pub returns-in_err-free_count-clause-first : goal.returns-in_err-free_count-clause-first
returns-in_err-free_count-clause-first c lowest lines held =
    absurd (omega (arith, c.in_err-free_count.ensures, free-fits c.args.self.now c.args.cells.now lines held c.args.class lowest.within lowest.found))

pub returns-then-place-cells-clause-first : goal.returns-then-place-cells-clause-first
returns-then-place-cells-clause-first c lowest lines held =
    omega (arith, c.if-place-cells.true, first_is_cell c.args.self.now c.args.cells.now lines held c.args.class lowest.within lowest.found)

pub returns-clause-first : goal.returns-clause-first
returns-clause-first c lowest lines held =
    rw (c.in_ok-count.ensures.1, c.in_ok-ticks.ensures.1, c.in_ok-free_count.ensures.1, c.from.ensures)
    (took_holds c.args.self.now c.args.cells.now lines held c.args.class lowest.within lowest.found (omega arith) lowest)
