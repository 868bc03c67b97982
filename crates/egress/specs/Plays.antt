-- The moments between the phases of the ticks, from an empty port on. Assumes nothing.
use Rattle.std.specs.Prelude.{ℕ, ◌+◌, ◌^◌, ◌<◌, ◌≤◌, Bool, false, List, [], map, length, slice_index_or}
use Rattle.std.specs.List.{AllByRecursion as Each}
use Rattle.flows.specs.Flow.{FlowModel}
use Rattle.promises.specs.Promises.{port_need}
use Rattle.promises.specs.Laws.{Holding}
use Rattle.lines.specs.declared.packet.Packet.{Packet}
use Rattle.port.specs.Laws.{Within}
use Rattle.machine.specs.Joint.{MachineModel}
use Rattle.machine.specs.Runs.{Goes, at_first}
use Rattle.machine.specs.Laws.{OfGate}
use Rattle.egress.specs.Egress.{GateModel, EgressModel, Accepted, leave_phase, come_phase, pass_phase, take_phase}

-- a port: its number, the flows of the net and which of them enter it there, the cells of its queues, the class of each flow,
-- and of each regulator before it whether it stands at the edge
pub record Setup : Type 0 where
  pub port : ℕ
  pub flows : List FlowModel
  pub enters : ℕ → Bool
  pub room : ℕ
  pub classes : List ℕ
  pub edges : List Bool

-- a packet is at most 255 ticks long
abbrev pub Short : FlowModel → Type 0
Short f = f.longest ≤ 255

-- it is promised no more than all of itself, each flow has a class in the table, and there is a cell for each tick that the
-- queues need
pub record Enough (a : Setup) : Type 0 where
  pub within : Within a.port a.flows
  pub holding : Each Holding a.flows
  pub short : Each Short a.flows
  pub table : length a.flows ≤ length a.classes
  pub cells : port_need a.port a.flows ≤ a.room

-- the states that its queues and levels may come to
abbrev pub Reached : Setup → MachineModel → Type 0
Reached a s = Goes a.enters a.port a.flows a.room a.classes s

-- a packet of a flow over this port, where the regulator is one of its kind
abbrev pub Belongs : Setup → Bool → Packet → Type 0
Belongs a at_edge packet = OfGate a.enters a.port a.flows a.classes at_edge packet

pub record MayCome (a : Setup) (c : Accepted) : Type 0 where
  pub within : c.gate < length a.edges
  pub belongs : Belongs a (slice_index_or a.edges c.gate false) c.packet

-- nothing has come
abbrev pub empty_gates : List Bool → List GateModel
empty_gates edges = map (λ b. record { at_edge = b; waits = [] }) edges

abbrev pub at_start : Setup → EgressModel
at_start a = record { gates = empty_gates a.edges; machine = at_first a.flows }

-- what leaves in a tick has left; what comes has come; what may pass has passed; the port has taken
pub data Moment : Type 0 where
  left : Moment
  came : Moment
  passed : Moment
  took : Moment

-- a packet that is taken in the tick leaves at a tick of 64 bits
abbrev pub Clocked : EgressModel → Type 0
Clocked e = e.machine.tick + 255 < 2 ^ 64

-- the phases follow each other, tick after tick
pub data Plays (a : Setup) : Moment → EgressModel → Type 0 where
  begins : Plays a left (at_start a)
  comes : {e : EgressModel} (cs : List Accepted) → Plays a left e → Each (MayCome a) cs → Plays a came (come_phase cs e)
  passes : {e : EgressModel} → Plays a came e → Plays a passed (pass_phase a.room a.classes e)
  takes : {e : EgressModel} → Plays a passed e → Clocked e → Plays a took (take_phase e)
  leaves : {e : EgressModel} → Plays a took e → Plays a left (leave_phase e)
