use Rattle.std.proofs.Common.{◌≡◌, ℕ, ◌<◌, ◌≤◌, List, length, get_or, set, sym, ap, ◌∙◌, subst, arith}
use Rattle.queues.specs.declared.cell.Cell.{Cell}
use Rattle.queues.specs.declared.queues_of.Queue.{Queue}
use Rattle.queues.specs.Lines.{put_in}
use Rattle.queues.specs.Held.{packet_at, no_cell, no_queue, queue_of, Holds}
use Rattle.queues.proofs.PutLaws.{no_cell_lem, may_put, free_is_cell, count_fits, ticks-few, put_queues, written, put_first, put_last}
use Rattle.queues.proofs.queues_of.Queues.enter.Goals as goal
use Rattle.queues.proofs.queues_of.Queues.enter.Goals.{In_ok-free_count, then-queue-eq0, else-queue-eq0}

-- the packet is of a class, and a cell is free
may : (c : In_ok-free_count) → (c.args.class < 8) × (0 < c.args.self.now.free_count)
may c = (omega (arith, c.in_ok-queue.ensures.lookup), omega (arith, c.in_ok-free_count.ensures))

pub returns-in_err-free_count-clause-answer : goal.returns-in_err-free_count-clause-answer
returns-in_err-free_count-clause-answer c lines held =
    rw c.from_residual-in_err-free_count.ensures (no_cell_lem c.args.self.now c.args.cells.now lines held c.args.class (omega (arith, c.in_err-free_count.ensures)))

pub returns-in_err-next-clause-answer : goal.returns-in_err-next-clause-answer
returns-in_err-next-clause-answer c lines held =
    let m = may (goal.at.returns-in_err-next-clause-answer c).In_ok-free_count in
    absurd (omega (arith, c.in_err-next.ensures.lookup, free_is_cell c.args.self.now c.args.cells.now lines held c.args.class m.0 m.1))

pub returns-in_err-count-clause-answer : goal.returns-in_err-count-clause-answer
returns-in_err-count-clause-answer c lines held =
    let m = may (goal.at.returns-in_err-count-clause-answer c).In_ok-free_count in
    let queue : c.in_ok-queue.field-0.now ≡ queue_of c.args.self.now c.args.class = c.in_ok-queue.ensures.lookup.3.1 no_queue in
    absurd (omega (arith, c.in_err-count.ensures, ap (λ u. u.count) queue, count_fits c.args.self.now c.args.cells.now lines held c.args.class m.0 m.1))

pub returns-in_err-ticks-clause-answer : goal.returns-in_err-ticks-clause-answer
returns-in_err-ticks-clause-answer c lines held =
    let m = may (goal.at.returns-in_err-ticks-clause-answer c).In_ok-free_count in
    let queue : c.in_ok-queue.field-0.now ≡ queue_of c.args.self.now c.args.class = c.in_ok-queue.ensures.lookup.3.1 no_queue in
    absurd (omega (arith, c.in_err-ticks.ensures, ap (λ u. u.ticks) queue, ticks-few c.args.self.now c.args.cells.now lines held c.args.class m.0))

pub returns-clause-answer : goal.returns-clause-answer
returns-clause-answer c lines held =
    let m = may (goal.at.returns-clause-answer c).In_ok-free_count in
    may_put c.args.self.now c.args.cells.now lines held c.args.class (omega (arith, m.0)) m.1

pub returns-clause-entered : goal.returns-clause-entered
returns-clause-entered c lines held done =
    let m = may (goal.at.returns-clause-entered c).In_ok-free_count in
    let q = c.args.self.now in
    let cells = c.args.cells.now in
    let class = c.args.class in
    let packet = c.args.packet in
    let fits : packet.length ≤ 255 = omega arith in
    let eight : length q.classes ≡ 8 = omega arith in
    let queue : c.in_ok-queue.field-0.now ≡ queue_of q class = c.in_ok-queue.ensures.lookup.3.1 no_queue in
    let cell : c.in_ok-next.field-0.now ≡ get_or cells q.free no_cell = c.in_ok-next.ensures.lookup.3.1 no_cell in
    let P : ℕ → List Cell → Type 0 = λ first after. Holds (put_queues q cells first class packet) after (put_in lines class packet) in
    let end_linked : Queue → List Cell = λ u. set (written q cells packet) u.last (record { packet = packet_at (written q cells packet) u.last; next = q.free }) in
    rw (c.in_ok-count.ensures.1, c.in_ok-ticks.ensures.1, c.in_ok-free_count.ensures.1, c.from.ensures, cell, queue)
    (elim c.if-queue-eq0.branch [
      | then-queue-eq0 w ↦
          subst (λ first. P first c.if-queue-eq0.cells) (sym w.first-is)
          (subst (P q.free) (sym w.cells-is) (put_first q cells lines held class m.0 m.1 packet fits eight (ap (λ u. u.count) (sym queue) ∙ w.if-queue-eq0.true)))
      | else-queue-eq0 w ↦
          subst (λ first. P first c.if-queue-eq0.cells) (sym (w.first-is ∙ ap (λ u. u.first) queue))
          (subst (P (queue_of q class).first) (sym (w.cells-is ∙ w.link.ensures ∙ ap end_linked queue)) (put_last q cells lines held class m.0 m.1 packet fits eight (omega (arith, ap (λ u. u.count) queue, w.if-queue-eq0.false))))
    ])
