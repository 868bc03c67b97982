use Rattle.std.proofs.Common.{ap, sym, ◌∙◌, map, arith}
use Rattle.bridge.specs.Held.{inside_state}
use Rattle.device.proofs.StartLaws.{behind_none, behind_more, before_more, before_none}
use Rattle.device.proofs.inside.inside_of.Goals as goal

pub loop-from-init : goal.loop-from-init
loop-from-init c = ap (map inside_state) c.new-inside.ensures.items ∙ sym (before_none c.args.port _)

pub loop-class-init : goal.loop-class-init
loop-class-init c = behind_none c.args.port c.loop-from.from _ _ c.loop-from.invariant

pub loop-class-preserved : goal.loop-class-preserved
loop-class-preserved c =
    behind_more c.args.port c.loop-from.from c.loop-class.class _ _ _ c.in_ok-add_inside.ensures c.loop-class.invariant

pub loop-from-preserved : goal.loop-from-preserved
loop-from-preserved c =
    before_more c.args.port c.loop-from.from c.loop-class.class _ _ (omega (arith, c.loop-class-test.false, c.loop-class.auto.class-end)) c.loop-class.invariant
