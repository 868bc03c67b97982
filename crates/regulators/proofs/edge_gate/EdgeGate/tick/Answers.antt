use Rattle.std.proofs.Common.{refl, arith, ◌∙◌}
use Rattle.std.proofs.lemmas.List.{with_items_is}
use Rattle.lines.specs.Lines.{Fits}
use Rattle.regulators.proofs.EdgeSteps.{edge-end}
use Rattle.regulators.proofs.EdgeExactLaws.{edge_laws}
use Rattle.regulators.proofs.edge_gate.EdgeGate.tick.Goals as goal

pub returns-clause-ticks : goal.returns-clause-ticks
returns-clause-ticks c ls held =
    let fits : Fits c.args.self.now.cells.items c.args.self.now.line = (omega arith, omega arith) in
    let judges = rw (c.as_mut_slice.ensures.value, c.as_slice.ensures.value, c.reserve.ensures.items) at (c.in_ok-line.ensures.judges ls refl) in
    let ends = judges fits c.args.self.now.room held in
    let cells = with_items_is c.args.self.now.cells c.judge.new.cells (omega arith) in
    let lent = c.as_slice-2.ensures.value ∙ cells in
    let opens = rw (lent, c.judge.auto.memory) at (c.open-self.ensures.opens ends.present) in
    rw cells (edge-end _ _ _ _ _ _ _ _ _ _ ends _ _ _ _ (opens ends.fits ends.held))

pub returns-clause-laws : goal.returns-clause-laws
returns-clause-laws c = edge_laws

pub returns-in_err-line-clause-laws : goal.returns-in_err-line-clause-laws
returns-in_err-line-clause-laws c = edge_laws

pub returns-in_err-reserve-clause-laws : goal.returns-in_err-reserve-clause-laws
returns-in_err-reserve-clause-laws c = edge_laws

pub returns-clause-room : goal.returns-clause-room
returns-clause-room c n some =
    let done = c.in_ok-line.ensures.done n (omega (arith, c.reserve.ensures.items, c.reserve.ensures.len, c.reserve.ensures.capacity, c.as_slice.ensures.len)) in
    (refl, done.1)
