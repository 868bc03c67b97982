use Rattle.std.proofs.Common.{◌+◌, drop, refl, List, get_or, ap, arith}
use Rattle.std.specs.List.{sum_by}
use Rattle.std.proofs.lemmas.List.{drop-set-lt}
use Rattle.std.proofs.lemmas.List.Sums.{sum_by-drop_more}
use Rattle.lines.specs.Lines.{waits}
use Rattle.regulators.specs.declared.coming.Coming.{Coming}
use Rattle.bridge.specs.Ports.{edge, GateState}
use Rattle.bridge.specs.Held.{edge_state, edge_coming}
use Rattle.bridge.proofs.GateSteps.{next-gate, loop-end}
use Rattle.bridge.proofs.ticks.tick_edges.Goals as goal

pub loop-edge-preserved : goal.loop-edge-preserved
loop-edge-preserved c = record {
  room = λ n some.
      let before = c.loop-edge.invariant.room n some in
      let more = sum_by-drop_more edge_coming c.loop-edge.edges c.loop-edge.edge-index c.edge-item.result (omega arith) in
      let after = c.in_ok-tick.ensures.room (sum_by edge_coming (drop (c.loop-edge.edge-index + 1) c.loop-edge.edges) + n) (omega (arith, before, more)) in
      rw (drop-set-lt (c.loop-edge.edge-index + 1) c.loop-edge.edges c.loop-edge.edge-index _ (omega arith)) (omega (arith, after.1));
  ends = λ ls held.
      let e = c.in_ok-tick.ensures in
      let inv = c.loop-edge.invariant.ends ls held in
      let old = get_or c.loop-edge.edges c.loop-edge.edge-index c.edge-item.result in
      let ticked = rw c.loop-edge.auto.memory at (e.ticks inv.present inv.held) in
      let same = ap (λ (cs : List Coming). let g : GateState = record { stand = edge old.flow; waits = waits c.tick.new.self.cells.items c.tick.new.self.line; coming = cs } in g) e.come in
      next-gate _ _ _ edge_state c.loop-edge.edges c.loop-edge.edge-index c.edge-item.result _ _ _ _ _ _ inv _ _ _ _ _ _ (omega arith) ticked same;
}

pub returns-in_err-tick-clause-room : goal.returns-in_err-tick-clause-room
returns-in_err-tick-clause-room c n some =
    let before = c.loop-edge.invariant.room n some in
    let more = sum_by-drop_more edge_coming c.loop-edge.edges c.loop-edge.edge-index c.edge-item.result (omega arith) in
    let after = c.in_err-tick.ensures.room (sum_by edge_coming (drop (c.loop-edge.edge-index + 1) c.loop-edge.edges) + n) (omega (arith, before, more)) in
    absurd (cc after.0)

pub returns-clause-room : goal.returns-clause-room
returns-clause-room c n some = let left = c.loop-edge.invariant.room n some in (refl, omega (arith, left))

pub returns-clause-ticks : goal.returns-clause-ticks
returns-clause-ticks c ls held = loop-end _ _ _ edge_state c.loop-edge.edges c.loop-edge.edge-index _ _ _ _ _ (omega arith) (c.loop-edge.invariant.ends ls held)
