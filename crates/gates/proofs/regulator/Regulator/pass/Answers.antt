use Rattle.std.proofs.Common.{◌≡◌, get_or, ap, ◌∙◌, subst, arith}
use Rattle.queues.specs.Lines.{put_in}
use Rattle.queues.specs.Held.{Holds, size}
use Rattle.gates.specs.Gates.{class_of}
use Rattle.gates.proofs.PassLaws.{is_spent}
use Rattle.gates.proofs.regulator.Regulator.pass.Goals as goal

pub returns-clause-passed : goal.returns-clause-passed
returns-clause-passed c ls held e =
    let classes = c.args.self.now.classes.now in
    let levels = c.args.levels.now in
    let packet = c.args.packet in
    let level = c.in_ok-get.field-0.now in
    let class : c.in_ok-class.field-0.now ≡ class_of classes packet = c.in_ok-class.ensures.lookup.3.1 0 ∙ ap (λ i. get_or classes i 0) c.from-flow.ensures in
    let read : level ≡ get_or levels packet.flow level = c.in_ok-get.ensures.lookup.1 ∙ ap (λ i. get_or levels i level) c.from-flow.ensures in (
      rw c.from-flow.ensures
          (is_spent (size c.args.memory.now) classes c.args.self.now.tick packet levels ls
          level c.at-level.result (omega (arith, c.in_ok-get.ensures.lookup, c.from-flow.ensures)) (omega (arith, c.in_ok-class.ensures.lookup, c.from-flow.ensures)) read c.at-level.ensures
          c.spend.result c.spend.ensures),
      subst (λ p. Holds c.put.new.self c.put.new.cells (put_in ls (class_of classes packet) p)) c.mark.ensures
          (subst (λ k. Holds c.put.new.self c.put.new.cells (put_in ls k c.mark.result)) class (c.put.ensures.entered ls held c.if-not-put.false)),
    )
