use Rattle.std.proofs.Common.{List, ◌++◌, map, vec_len, vec_capacity, arith}
use Rattle.std.specs.List.{sum_by}
use Rattle.std.specs.Vec.{with_items}
use Rattle.std.proofs.lemmas.List.{with_items_is}
use Rattle.lines.specs.declared.packet.Packet.{Packet}
use Rattle.levels.specs.Models.{level_model}
use Rattle.queues.specs.Held.{Holds, size}
use Rattle.bridge.specs.Ports.{gates_tick}
use Rattle.bridge.specs.Held.{edge_state, inside_state, edge_coming, inside_coming, gates_behind, GatesTicked}
use Rattle.bridge.proofs.GateSteps.{then-others, port-took}
use Rattle.bridge.proofs.CountLaws.{enough}
use Rattle.bridge.proofs.PhaseLaws.{bridge_laws}
use Rattle.bridge.proofs.egress_port.EgressPort.tick.Goals as goal

pub returns-clause-ticks : goal.returns-clause-ticks
returns-clause-ticks c ls held =
    let s = c.args.self.now in
    let room = size c.args.memory.now in
    let edges = with_items_is s.edges c.tick_edges.new.edges (omega arith) in
    let inside = with_items_is s.inside c.tick_inside.new.inside (omega arith) in
    let less = with_items_is s.levels c.tick_edges.new.levels (omega arith) in
    let ticked : (ls : List (List Packet)) → Holds s.queues c.args.memory.now ls →
    GatesTicked (map edge_state c.tick_edges.new.edges) c.tick_edges.new.levels c.tick_edges.new.queues c.tick_edges.new.memory
    c.tick_edges.new.refused.items (gates_behind c.args.refused.now.items
    (gates_tick room c.args.classes.now c.args.tick (map edge_state s.edges.items) (map level_model s.levels.items) ls)) =
    rw (c.as_mut_slice.ensures.value, c.as_mut_slice-2.ensures.value, c.reserve.ensures.items) at c.in_ok-tick_edges.ensures.ticks in
    let others : (ls : List (List Packet)) → Holds c.tick_edges.new.queues c.tick_edges.new.memory ls →
    GatesTicked (map inside_state c.tick_inside.new.inside) c.tick_inside.new.levels c.tick_inside.new.queues c.tick_inside.new.memory
    c.tick_inside.new.refused.items (gates_behind c.tick_edges.new.refused.items
    (gates_tick room c.args.classes.now c.args.tick (map inside_state s.inside.items) (map level_model c.tick_edges.new.levels) ls)) =
    rw (c.as_mut_slice-3.ensures.value, c.as_mut_slice-4.ensures.value, less, c.tick_edges.auto.memory) at c.in_ok-tick_inside.ensures.ticks in
    let least = with_items_is (with_items s.levels c.tick_edges.new.levels) c.tick_inside.new.levels (omega arith) in
    let one = ticked ls held in
    let two = others (gates_tick room c.args.classes.now c.args.tick (map edge_state s.edges.items) (map level_model s.levels.items) ls).queues one.held in
    let whole : GatesTicked
    (map edge_state (with_items s.edges c.tick_edges.new.edges).items ++ map inside_state (with_items s.inside c.tick_inside.new.inside).items)
    (with_items (with_items s.levels c.tick_edges.new.levels) c.tick_inside.new.levels).items c.tick_inside.new.queues
    c.tick_inside.new.memory c.tick_inside.new.refused.items (gates_behind c.args.refused.now.items
    (gates_tick room c.args.classes.now c.args.tick (map edge_state s.edges.items ++ map inside_state s.inside.items) (map level_model s.levels.items) ls)) =
    rw (edges, inside, least) (then-others room c.args.classes.now c.args.tick (map edge_state s.edges.items) (map inside_state s.inside.items) s.levels.items ls
    c.args.refused.now.items (map edge_state c.tick_edges.new.edges) c.tick_edges.new.levels c.tick_edges.new.queues c.tick_edges.new.memory c.tick_edges.new.refused.items one
    (map inside_state c.tick_inside.new.inside) c.tick_inside.new.levels c.tick_inside.new.queues c.tick_inside.new.memory c.tick_inside.new.refused.items two) in
    port-took c.args.tick _ c.tick_inside.new.queues c.tick_inside.new.memory c.take-self.new.memory c.args.refused.now.items c.tick_inside.new.refused.items _ s.sending whole
    c.take-self.ensures.free c.take-self.ensures.busy

pub returns-clause-laws : goal.returns-clause-laws
returns-clause-laws c = bridge_laws

pub returns-in_err-tick_edges-clause-laws : goal.returns-in_err-tick_edges-clause-laws
returns-in_err-tick_edges-clause-laws c = bridge_laws

pub returns-in_err-tick_inside-clause-laws : goal.returns-in_err-tick_inside-clause-laws
returns-in_err-tick_inside-clause-laws c = bridge_laws

pub returns-in_err-reserve-clause-laws : goal.returns-in_err-reserve-clause-laws
returns-in_err-reserve-clause-laws c = bridge_laws

pub returns-in_err-tick_edges-clause-kept : goal.returns-in_err-tick_edges-clause-kept
returns-in_err-tick_edges-clause-kept c =
    let fits = enough (sum_by edge_coming c.args.self.now.edges.items) (sum_by inside_coming c.args.self.now.inside.items) c.coming_to_edges-at_edge.result c.coming_to_inside-inside.result c.saturating_add.result
    (vec_len c.reserve.new.self) (vec_capacity c.reserve.new.self) (rw c.deref.ensures.value at c.coming_to_edges-at_edge.ensures) (rw c.deref-2.ensures.value at c.coming_to_inside-inside.ensures)
    c.saturating_add.ensures c.in_ok-reserve.ensures.ok c.reserve.new.self.small in
    let done = (rw c.as_mut_slice.ensures.value at c.in_err-tick_edges.ensures.room) (sum_by inside_coming c.args.self.now.inside.items) fits in
    absurd (cc done.0)

pub returns-in_err-tick_inside-clause-kept : goal.returns-in_err-tick_inside-clause-kept
returns-in_err-tick_inside-clause-kept c =
    let fits = enough (sum_by edge_coming c.args.self.now.edges.items) (sum_by inside_coming c.args.self.now.inside.items) c.coming_to_edges-at_edge.result c.coming_to_inside-inside.result c.saturating_add.result
    (vec_len c.reserve.new.self) (vec_capacity c.reserve.new.self) (rw c.deref.ensures.value at c.coming_to_edges-at_edge.ensures) (rw c.deref-2.ensures.value at c.coming_to_inside-inside.ensures)
    c.saturating_add.ensures c.in_ok-reserve.ensures.ok c.reserve.new.self.small in
    let first = (rw c.as_mut_slice.ensures.value at c.in_ok-tick_edges.ensures.room) (sum_by inside_coming c.args.self.now.inside.items) fits in
    let done = (rw c.as_mut_slice-3.ensures.value at c.in_err-tick_inside.ensures.room) 0 (omega (arith, first.1)) in
    absurd (cc done.0)
