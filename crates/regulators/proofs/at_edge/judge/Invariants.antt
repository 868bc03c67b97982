use Rattle.std.proofs.Common.{◌≡◌, ℕ, ◌+◌, ◌-◌, ◌≤◌, true, List, map, length, drop, vec_len, vec_capacity}
use Rattle.lines.specs.declared.packet.Packet.{Packet}
use Rattle.lines.specs.Lines.{Fits, waits}
use Rattle.levels.specs.Models.{level_model}
use Rattle.queues.specs.Held.{Holds, size}
use Rattle.regulators.specs.Judged.{edge_tick}
use Rattle.regulators.specs.Ticked.{EdgeEnds, behind}
use Rattle.regulators.proofs.at_edge.judge.Given as goal

abbrev pub invariant-loop-one : goal.invariant-loop-one
invariant-loop-one l =
    record {
      room : (n : ℕ) → vec_len l.initial.refused + length l.coming + n ≤ vec_capacity l.initial.refused → vec_len l.refused + (length l.coming - l.one-index) + n ≤ vec_capacity l.refused;
      fits : Fits l.initial.cells l.fn.gate → Fits l.cells l.line;
      ends : (ls : List (List Packet)) → l.regulator.at_edge ≡ true → Fits l.initial.cells l.fn.gate → length l.initial.cells ≡ 64 →
          Holds l.initial.queues l.initial.memory ls →
          EdgeEnds (size l.initial.memory) l.regulator.classes.now l.regulator.tick l.cells l.line l.levels l.queues l.memory l.refused.items
          (drop l.one-index l.coming)
          (behind l.initial.refused.items (edge_tick (size l.initial.memory) l.regulator.classes.now l.regulator.tick (waits l.initial.cells l.fn.gate)
          (map level_model l.initial.levels) ls l.coming));
    }
