use Rattle.std.proofs.Common.{refl, get_or, add-one, drop-cons, arith}
use Rattle.regulators.specs.declared.coming.Coming.{Coming}
use Rattle.regulators.proofs.InnerSteps.{put-ends, refused-ends}
use Rattle.regulators.proofs.inside.judge.Goals as goal
use Rattle.regulators.proofs.inside.judge.Goals.{in-Some, in-None+in_ok-push-in-None}

pub loop-one-preserved : goal.loop-one-preserved
loop-one-preserved c = record {
  room = λ n some.
      let before = c.loop-one.invariant.room n some in
      elim c.match-accept.branch [
        | in-Some w ↦ rw w.refused-is (omega arith)
        | in-None+in_ok-push-in-None w ↦ rw w.refused-is (omega (arith, w.in_ok-push-in-None.ensures.len, w.in_ok-push-in-None.ensures.capacity))
      ];
  ends = λ sound.
      let inv = c.loop-one.invariant.ends sound in
      let none : Coming = record { number = 0; packet = record { flow = 0; length = 0; edge = 0 } } in
      let one : Coming = get_or c.args.coming.now c.loop-one.one-index none in
      let ends = rw (drop-cons c.args.coming.now c.loop-one.one-index none (omega arith)) at inv.ends in
      elim c.match-accept.branch [
        | in-Some w ↦ rw (w.counted-is, w.refused-is, add-one) (put-ends c.args.aside c.loop-one.cells c.accept.new.cells c.loop-one.counted c.loop-one.refused.items one _ _ ends w.in-Some.longer (w.in-Some.ensures inv.sound))
        | in-None+in_ok-push-in-None w ↦
            rw (w.counted-is, w.refused-is, add-one) (refused-ends c.args.aside c.loop-one.cells c.accept.new.cells c.loop-one.counted c.loop-one.refused.items one _ _ ends w.push.new.self.items inv.sound (w.in-None.ensures inv.sound) w.in_ok-push-in-None.ensures.items)
      ];
}

pub returns-in_err-push-in-None-clause-done : goal.returns-in_err-push-in-None-clause-done
returns-in_err-push-in-None-clause-done c n some =
    let before = c.loop-one.invariant.room n some in
    absurd (omega (arith, c.in_err-push-in-None.ensures.full))

pub returns-clause-done : goal.returns-clause-done
returns-clause-done c n some = let left = c.loop-one.invariant.room n some in (refl, omega arith)
