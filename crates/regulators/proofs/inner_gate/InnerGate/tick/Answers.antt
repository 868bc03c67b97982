use Rattle.std.proofs.Common.{refl, arith, List, subst, sym, ◌∙◌}
use Rattle.std.proofs.lemmas.List.{with_items_is}
use Rattle.lines.specs.declared.packet.Packet.{Packet}
use Rattle.regulators.specs.Ticked.{Sound}
use Rattle.regulators.proofs.InnerSteps.{left-sound, inner-end}
use Rattle.regulators.proofs.InnerExactLaws.{inner_laws}
use Rattle.regulators.proofs.inner_gate.InnerGate.tick.Goals as goal

pub invariant_of-self-2 : goal.invariant_of-self-2
invariant_of-self-2 c =
    let first : Sound c.args.self.now.aside c.args.self.now.cells.items c.args.self.now.counted = record {
      fits = (omega arith, omega arith);
      counts = c.args.self.now.counts;
      many = c.args.self.now.room;
      kept = c.args.self.now.kept;
    } in
    let sound = (rw c.as_mut_slice.ensures.value at c.judge.ensures.sound) first in
    let cells = with_items_is c.args.self.now.cells c.judge.new.cells (omega arith) in
    let left = (rw (c.as_slice-3.ensures.value ∙ cells) at c.left_of-self.ensures) sound.fits sound.counts in
    let after = subst (λ (x : List Packet). Sound c.args.self.now.aside x c.left_of-self.result) (sym cells) (left-sound _ _ _ _ _ sound left) in
    record { begins = after.fits.0; few = after.fits.1; room = after.many; counts = after.counts; kept = after.kept }

pub returns-clause-ticks : goal.returns-clause-ticks
returns-clause-ticks c ls held =
    let first : Sound c.args.self.now.aside c.args.self.now.cells.items c.args.self.now.counted = record {
      fits = (omega arith, omega arith);
      counts = c.args.self.now.counts;
      many = c.args.self.now.room;
      kept = c.args.self.now.kept;
    } in
    let ends = (rw (c.as_mut_slice.ensures.value, c.as_slice.ensures.value, c.reserve.ensures.items) at c.in_ok-judge.ensures.judges) first in
    let cells = with_items_is c.args.self.now.cells c.judge.new.cells (omega arith) in
    let left = (rw (c.as_slice-3.ensures.value ∙ cells) at c.left_of-self.ensures) ends.sound.fits ends.sound.counts in
    let opens = (rw (c.as_slice-2.ensures.value ∙ cells) at (c.open-left.ensures.opens ls)) ends.sound.fits held in
    rw cells (inner-end _ _ _ _ _ _ _ _ _ _ _ _ _ _ _ _ _ ends opens left)

pub returns-clause-laws : goal.returns-clause-laws
returns-clause-laws c = inner_laws

pub returns-in_err-judge-clause-laws : goal.returns-in_err-judge-clause-laws
returns-in_err-judge-clause-laws c = inner_laws

pub returns-in_err-reserve-clause-laws : goal.returns-in_err-reserve-clause-laws
returns-in_err-reserve-clause-laws c = inner_laws

pub returns-clause-room : goal.returns-clause-room
returns-clause-room c n some =
    let done = c.in_ok-judge.ensures.done n (omega (arith, c.reserve.ensures.items, c.reserve.ensures.len, c.reserve.ensures.capacity, c.as_slice.ensures.len)) in
    (refl, done.1)
