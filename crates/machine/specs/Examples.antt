-- A packet of two ticks that passes and is taken at tick 0. Assumes nothing.
use Rattle.std.specs.Prelude.{◌≡◌, ◌+◌, true, List, [], ◌∷◌}
use Rattle.flows.specs.Flow.{FlowModel}
use Rattle.lines.specs.declared.packet.Packet.{Packet}
use Rattle.machine.specs.declared.leaving.Leaving.TheVariants.{Gone}
use Rattle.machine.specs.Phases.{leaves}
use Rattle.machine.specs.Joint.{MachineModel}
use Rattle.machine.specs.Runs.{Goes}

-- a flow over port 0, of class 3
abbrev pub one_flow : List FlowModel
one_flow = record { class = 3; longest = 2; burst = 2; rate = 1000; deadline = 9; road = 0 ∷ [] } ∷ []

abbrev pub two_ticks : Packet
two_ticks = record { flow = 0; length = 2; edge = 0 }

-- its last bit leaves at tick 2
abbrev pub LeavesAtTwo : Type 0
LeavesAtTwo =
    (s : MachineModel) × Goes (λ _. true) 0 one_flow 1 (3 ∷ []) s × (s.tick ≡ 1) × (leaves (s.tick + 1) s.sending ≡ Gone two_ticks)
