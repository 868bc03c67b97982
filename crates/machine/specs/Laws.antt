-- What the code does at one port are steps of a port, and so it keeps what a port promises. Assumes nothing.
use Rattle.std.specs.Prelude.{◌≡◌, ℕ, ◌+◌, ◌^◌, ◌<◌, ◌≤◌, Bool, true, List, [], slice_index_or}
use Rattle.std.specs.List.{AllByRecursion as Each}
use Rattle.flows.specs.Flow.{FlowModel}
use Rattle.promises.specs.Promises.{promise, queue_need}
use Rattle.lines.specs.declared.packet.Packet.{Packet}
use Rattle.queues.specs.declared.queues_of.Taken.TheVariants.{Packet as taken}
use Rattle.queues.specs.Lines.{taken_from, ticks_of, sum_to}
use Rattle.gates.specs.Gates.{opened}
use Rattle.port.specs.Port.{PortModel, Step, Run, flow_at, empty}
use Rattle.port.specs.Laws.{Within}
use Rattle.machine.specs.declared.leaving.Leaving.TheVariants.{Gone}
use Rattle.machine.specs.Phases.{leaves}
use Rattle.machine.specs.Joint.{MachineModel, Shows}
use Rattle.machine.specs.Runs.{at_first, Fitting, MayPass, after_pass, MayTake, after_take, MayTick, after_tick, Goes, after_open, after_taking}
use Rattle.machine.specs.Examples.{LeavesAtTwo}

-- port p comes from m by one step to a state that s shows
pub record StepTo (enters : ℕ → Bool) (p : ℕ) (fs : List FlowModel) (m : PortModel) (s : MachineModel) : Type 0 where
  pub next : PortModel
  pub step : Step p fs m next
  pub shows : Shows enters fs s next

-- at first the code shows a port into which nothing has passed
abbrev pub BeginsEmpty : Type 0
BeginsEmpty = (enters : ℕ → Bool) (fs : List FlowModel) → Shows enters fs (at_first fs) (empty fs)

-- a packet that a gate lets pass does so at the port
abbrev pub PassIsPass : Type 0
PassIsPass =
    (enters : ℕ → Bool) (p : ℕ) (fs : List FlowModel) (room : ℕ) (classes : List ℕ) (s : MachineModel) (m : PortModel) (packet : Packet) →
    Shows enters fs s m → MayPass p fs room classes s packet → StepTo enters p fs m (after_pass enters classes s packet)

-- what the code takes is taken at the port
abbrev pub TakeIsTake : Type 0
TakeIsTake =
    (enters : ℕ → Bool) (p : ℕ) (fs : List FlowModel) (s : MachineModel) (m : PortModel) (class : ℕ) (packet : Packet) →
    Shows enters fs s m → MayTake s class packet → StepTo enters p fs m (after_take s)

-- the next tick of the code is one of the port
abbrev pub TickIsTick : Type 0
TickIsTick =
    (enters : ℕ → Bool) (p : ℕ) (fs : List FlowModel) (s : MachineModel) (m : PortModel) →
    Shows enters fs s m → MayTick s → StepTo enters p fs m (after_tick s)

-- a state of a port that s shows, and to which the port comes
pub record RunTo (enters : ℕ → Bool) (p : ℕ) (fs : List FlowModel) (s : MachineModel) : Type 0 where
  pub port : PortModel
  pub run : Run p fs port
  pub shows : Shows enters fs s port

-- so each state of the code shows one of a run of the port
abbrev pub GoesAsPort : Type 0
GoesAsPort =
    (enters : ℕ → Bool) (p : ℕ) (fs : List FlowModel) (room : ℕ) (classes : List ℕ) (s : MachineModel) →
    Goes enters p fs room classes s → RunTo enters p fs s

-- a packet that entered the net at this port leaves within what the port promises its class
abbrev pub LeavesInTime : Type 0
LeavesInTime =
    (enters : ℕ → Bool) (p : ℕ) (fs : List FlowModel) (room : ℕ) (classes : List ℕ) (s : MachineModel) (packet : Packet) →
    Within p fs → Goes enters p fs room classes s → enters packet.flow ≡ true →
    leaves (s.tick + 1) s.sending ≡ Gone packet →
    s.tick + 1 ≤ packet.edge + promise p (flow_at fs packet.flow).class fs

-- what waits in the queues of classes up to c keeps within what these need
abbrev pub QueuesKept : Type 0
QueuesKept =
    (enters : ℕ → Bool) (p : ℕ) (fs : List FlowModel) (room : ℕ) (classes : List ℕ) (s : MachineModel) (c : ℕ) →
    Within p fs → Goes enters p fs room classes s →
    sum_to (c + 1) (λ d. ticks_of (slice_index_or s.queues d [])) ≤ queue_need p c fs

-- the packets of a gate: whether they enter the net here is the same for all
abbrev pub OfGate : (ℕ → Bool) → ℕ → List FlowModel → List ℕ → Bool → Packet → Type 0
OfGate enters p fs classes at_edge packet = Fitting p fs classes packet × (enters packet.flow ≡ at_edge)

-- a gate may be opened at any time
abbrev pub OpenGoes : Type 0
OpenGoes =
    (enters : ℕ → Bool) (p : ℕ) (fs : List FlowModel) (room : ℕ) (classes : List ℕ) (s : MachineModel) (at_edge : Bool) (waits : List Packet) →
    Goes enters p fs room classes s → Each (OfGate enters p fs classes at_edge) waits →
    Goes enters p fs room classes (after_open s (opened room at_edge classes s.tick waits s.levels s.queues))

-- after the port took, unless it is sending, the tick may end
abbrev pub TakeThenTick : Type 0
TakeThenTick =
    (enters : ℕ → Bool) (p : ℕ) (fs : List FlowModel) (room : ℕ) (classes : List ℕ) (s : MachineModel) →
    Goes enters p fs room classes s →
    ((class : ℕ) (packet : Packet) → taken_from 0 s.queues ≡ taken class packet → s.tick + packet.length < 2 ^ 64) →
    Goes enters p fs room classes (after_taking s s.sending) × MayTick (after_taking s s.sending)

pub record MachineLaws : Type 0 where
  pub begins : BeginsEmpty
  pub passes : PassIsPass
  pub takes : TakeIsTake
  pub ticks : TickIsTick
  pub run : GoesAsPort
  pub gates : OpenGoes
  pub taking : TakeThenTick
  pub leave : LeavesInTime
  pub queues : QueuesKept
  pub worked : LeavesAtTwo
