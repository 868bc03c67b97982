use Rattle.std.proofs.Common.{List, map}
use Rattle.lines.specs.declared.packet.Packet.{Packet}
use Rattle.lines.specs.Lines.{Fits, waits}
use Rattle.levels.specs.Models.{level_model}
use Rattle.queues.specs.Held.{Holds, size}
use Rattle.gates.specs.Gates.{opened}
use Rattle.gates.specs.Opens.{Ends}
use Rattle.gates.proofs.regulator.Regulator.open.Given as goal

abbrev pub invariant-loop-rest : goal.invariant-loop-rest
invariant-loop-rest l =
    (Fits l.waiting l.fn.gate → Fits l.waiting l.left) ×
    ((ls : List (List Packet)) → Fits l.waiting l.fn.gate → Holds l.initial.queues l.initial.memory ls →
    Ends (size l.initial.memory) l.self.at_edge l.self.classes.now l.self.tick l.waiting l.left l.levels l.queues l.memory
    (opened (size l.initial.memory) l.self.at_edge l.self.classes.now l.self.tick (waits l.waiting l.fn.gate) (map level_model l.initial.levels) ls))

abbrev pub decreases-loop-rest : goal.decreases-loop-rest
decreases-loop-rest l = l.left.count
