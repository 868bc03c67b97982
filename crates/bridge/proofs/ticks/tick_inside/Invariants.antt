use Rattle.std.proofs.Common.{ℕ, ◌+◌, ◌≤◌, vec_len, vec_capacity, List, map, take, drop}
use Rattle.std.specs.List.{sum_by}
use Rattle.lines.specs.declared.packet.Packet.{Packet}
use Rattle.levels.specs.Models.{level_model}
use Rattle.queues.specs.Held.{Holds, size}
use Rattle.bridge.specs.Ports.{gates_tick}
use Rattle.bridge.specs.Held.{inside_state, inside_coming, gates_behind}
use Rattle.bridge.proofs.GateSteps.{GatesEnd}
use Rattle.bridge.proofs.ticks.tick_inside.Given as goal

abbrev pub invariant-loop-inner : goal.invariant-loop-inner
invariant-loop-inner l =
    record {
      room : (n : ℕ) → vec_len l.initial.refused + sum_by inside_coming l.initial.inside + n ≤ vec_capacity l.initial.refused →
          vec_len l.refused + sum_by inside_coming (drop l.inner-index l.inside) + n ≤ vec_capacity l.refused;
      ends : (ls : List (List Packet)) → Holds l.initial.queues l.initial.memory ls →
          GatesEnd (size l.initial.memory) l.classes l.tick (map inside_state (take l.inner-index l.inside)) (map inside_state (drop l.inner-index l.inside)) l.levels l.queues
          l.memory l.refused.items
          (gates_behind l.initial.refused.items
          (gates_tick (size l.initial.memory) l.classes l.tick (map inside_state l.initial.inside) (map level_model l.initial.levels) ls));
    }
