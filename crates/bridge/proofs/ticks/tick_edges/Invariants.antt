use Rattle.std.proofs.Common.{ℕ, ◌+◌, ◌≤◌, vec_len, vec_capacity, List, map, take, drop}
use Rattle.std.specs.List.{sum_by}
use Rattle.lines.specs.declared.packet.Packet.{Packet}
use Rattle.levels.specs.Models.{level_model}
use Rattle.queues.specs.Held.{Holds, size}
use Rattle.bridge.specs.Ports.{gates_tick}
use Rattle.bridge.specs.Held.{edge_state, edge_coming, gates_behind}
use Rattle.bridge.proofs.GateSteps.{GatesEnd}
use Rattle.bridge.proofs.ticks.tick_edges.Given as goal

abbrev pub invariant-loop-edge : goal.invariant-loop-edge
invariant-loop-edge l =
    record {
      room : (n : ℕ) → vec_len l.initial.refused + sum_by edge_coming l.initial.edges + n ≤ vec_capacity l.initial.refused →
          vec_len l.refused + sum_by edge_coming (drop l.edge-index l.edges) + n ≤ vec_capacity l.refused;
      ends : (ls : List (List Packet)) → Holds l.initial.queues l.initial.memory ls →
          GatesEnd (size l.initial.memory) l.classes l.tick (map edge_state (take l.edge-index l.edges)) (map edge_state (drop l.edge-index l.edges)) l.levels l.queues
          l.memory l.refused.items
          (gates_behind l.initial.refused.items
          (gates_tick (size l.initial.memory) l.classes l.tick (map edge_state l.initial.edges) (map level_model l.initial.levels) ls));
    }
