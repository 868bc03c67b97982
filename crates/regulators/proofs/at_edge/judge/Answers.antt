use Rattle.std.proofs.Common.{refl, arith, suc, drop, get_or, subst, sym, add-one, drop-cons}
use Rattle.lines.specs.Lines.{Fits}
use Rattle.regulators.specs.declared.coming.Coming.{Coming}
use Rattle.regulators.proofs.EdgeSteps.{accepted-ends, refused-ends}
use Rattle.regulators.proofs.at_edge.judge.Goals as goal
use Rattle.regulators.proofs.at_edge.judge.Goals.{in-Some, in-None+in_ok-push-in-None}

pub loop-one-preserved : goal.loop-one-preserved
loop-one-preserved c = record {
  room = λ n some.
      let before = c.loop-one.invariant.room n some in
      elim c.match-push.branch [
        | in-Some w ↦ rw w.refused-is (omega arith)
        | in-None+in_ok-push-in-None w ↦ rw w.refused-is (omega (arith, w.in_ok-push-in-None.ensures.len, w.in_ok-push-in-None.ensures.capacity))
      ];
  fits = λ fits.
      let left = c.open-left.ensures.fits (c.loop-one.invariant.fits fits) in
      elim c.match-push.branch [
        | in-Some w ↦ rw w.line-is (w.in-Some.ensures.means left).fits
        | in-None+in_ok-push-in-None w ↦ rw w.line-is (subst (λ cells. Fits cells c.open-left.result) (sym (w.in-None.ensures.means left).cells) left)
      ];
  ends = λ ls edge fits many held.
      let inv = c.loop-one.invariant.ends ls edge fits many held in
      let memory = c.loop-one.auto.memory in
      let opens = rw (memory, edge) at (c.open-left.ensures.opens inv.present inv.fits inv.held) in
      let one : Coming = get_or c.args.coming.now c.loop-one.one-index (record { number = 0; packet = record { flow = 0; length = 0; edge = 0 } }) in
      let ends = rw (drop-cons c.args.coming.now c.loop-one.one-index (record { number = 0; packet = record { flow = 0; length = 0; edge = 0 } }) (omega arith)) at inv.ends in
      elim c.match-push.branch [
        | in-Some w ↦ rw (w.line-is, w.refused-is, add-one) (accepted-ends _ _ _ c.loop-one.cells c.loop-one.line c.loop-one.levels inv.present c.loop-one.refused.items one (drop (suc c.loop-one.one-index) c.args.coming.now) _ inv.many ends c.open-left.result c.open-left.new.levels c.open-left.new.queues c.open-left.new.memory opens c.push.new.cells w.in-Some.longer (w.in-Some.ensures.means opens.fits))
        | in-None+in_ok-push-in-None w ↦ rw (w.line-is, w.refused-is, add-one) (refused-ends _ _ _ c.loop-one.cells c.loop-one.line c.loop-one.levels inv.present c.loop-one.refused.items one (drop (suc c.loop-one.one-index) c.args.coming.now) _ inv.many ends c.open-left.result c.open-left.new.levels c.open-left.new.queues c.open-left.new.memory opens c.push.new.cells w.push-in-None.new.self.items (w.in-None.ensures.means opens.fits) w.in_ok-push-in-None.ensures.items)
      ];
}

pub returns-in_err-push-in-None-clause-done : goal.returns-in_err-push-in-None-clause-done
returns-in_err-push-in-None-clause-done c n some =
    let before = c.loop-one.invariant.room n some in
    absurd (omega (arith, c.in_err-push-in-None.ensures.full))

pub returns-clause-done : goal.returns-clause-done
returns-clause-done c n some = let left = c.loop-one.invariant.room n some in (refl, omega arith)
