use Rattle.std.proofs.Common.{◌+◌, drop, refl, ℕ, List, [], get_or, ap, ◌∙◌, arith}
use Rattle.std.specs.List.{sum_by}
use Rattle.std.proofs.lemmas.List.{drop-set-lt}
use Rattle.std.proofs.lemmas.List.Sums.{sum_by-drop_more}
use Rattle.lines.specs.Lines.{waits}
use Rattle.regulators.specs.declared.coming.Coming.{Coming}
use Rattle.bridge.specs.Ports.{inside, GateState}
use Rattle.bridge.specs.Held.{inside_state, inside_coming}
use Rattle.bridge.proofs.GateSteps.{next-gate, loop-end}
use Rattle.bridge.proofs.ticks.tick_inside.Goals as goal

pub loop-inner-preserved : goal.loop-inner-preserved
loop-inner-preserved c = record {
  room = λ n some.
      let before = c.loop-inner.invariant.room n some in
      let more = sum_by-drop_more inside_coming c.loop-inner.inside c.loop-inner.inner-index c.inner-item.result (omega arith) in
      let after = c.in_ok-tick.ensures.room (sum_by inside_coming (drop (c.loop-inner.inner-index + 1) c.loop-inner.inside) + n) (omega (arith, before, more)) in
      rw (drop-set-lt (c.loop-inner.inner-index + 1) c.loop-inner.inside c.loop-inner.inner-index _ (omega arith)) (omega (arith, after.1));
  ends = λ ls held.
      let e = c.in_ok-tick.ensures in
      let inv = c.loop-inner.invariant.ends ls held in
      let old = get_or c.loop-inner.inside c.loop-inner.inner-index c.inner-item.result in
      let ticked = rw c.loop-inner.auto.memory at (e.ticks inv.present inv.held) in
      let same = ap (λ (cs : List Coming). let g : GateState = record { stand = inside old.from old.class c.tick.new.self.aside; waits = waits c.tick.new.self.cells.items c.tick.new.self.counted.line; coming = cs } in g) e.come
      ∙ ap (λ (n : ℕ). let g : GateState = record { stand = inside old.from old.class n; waits = waits c.tick.new.self.cells.items c.tick.new.self.counted.line; coming = [] } in g) e.aside in
      next-gate _ _ _ inside_state c.loop-inner.inside c.loop-inner.inner-index c.inner-item.result _ _ _ _ _ _ inv _ _ _ _ _ _ (omega arith) ticked same;
}

pub returns-in_err-tick-clause-room : goal.returns-in_err-tick-clause-room
returns-in_err-tick-clause-room c n some =
    let before = c.loop-inner.invariant.room n some in
    let more = sum_by-drop_more inside_coming c.loop-inner.inside c.loop-inner.inner-index c.inner-item.result (omega arith) in
    let after = c.in_err-tick.ensures.room (sum_by inside_coming (drop (c.loop-inner.inner-index + 1) c.loop-inner.inside) + n) (omega (arith, before, more)) in
    absurd (cc after.0)

pub returns-clause-room : goal.returns-clause-room
returns-clause-room c n some = let left = c.loop-inner.invariant.room n some in (refl, omega (arith, left))

pub returns-clause-ticks : goal.returns-clause-ticks
returns-clause-ticks c ls held = loop-end _ _ _ inside_state c.loop-inner.inside c.loop-inner.inner-index _ _ _ _ _ (omega arith) (c.loop-inner.invariant.ends ls held)
