-- Laws of one port. Assumes nothing.
use Rattle.std.specs.Prelude.{◌≡◌, ℕ, ◌+◌, ◌≤◌, ◌⊎◌, List}
use Rattle.std.specs.List.{AllByRecursion as Each}
use Rattle.flows.specs.Flow.{FlowModel}
use Rattle.promises.specs.Promises.{den, rates, promise, queue_need}
use Rattle.promises.specs.Laws.{Classed}
use Rattle.memory.specs.Plans.{Rated}
use Rattle.port.specs.Port.{Packet, Gone, PortModel, MayTake, MayTick, Run, flow_at, queue_of, waiting_below, leaving, line_of, passes_of}
use Rattle.port.specs.Examples.{PromiseMet}

-- flows that do not ask more of port p than all of it
pub record Within (p : ℕ) (fs : List FlowModel) : Type 0 where
  pub classed : Each Classed fs
  pub rated : Each Rated fs
  pub room : rates p fs ≤ den

-- its last bit left within what port p promises its class
abbrev pub Punctual : ℕ → List FlowModel → Gone → Type 0
Punctual p fs g = g.at ≤ g.packet.into + promise p (flow_at fs g.packet.flow).class fs

-- taken at once, it would leave within the promise
abbrev pub HasTime : ℕ → List FlowModel → ℕ → Packet → Type 0
HasTime p fs now w = now + w.len ≤ w.into + promise p (flow_at fs w.flow).class fs

-- every packet that has left did so within the promise
abbrev pub PortPunctual : Type 0
PortPunctual = (p : ℕ) (fs : List FlowModel) (s : PortModel) → Within p fs → Run p fs s → Each (Punctual p fs) s.gone

-- none that has not left is late: what is being sent will leave in time, and what waits has its time still
abbrev pub NobodyLate : Type 0
NobodyLate =
    (p c : ℕ) (fs : List FlowModel) (s : PortModel) → Within p fs → Run p fs s →
    Each (Punctual p fs) (leaving s.sending) × Each (HasTime p fs s.now) (queue_of s.queues c)

-- at every moment what waits in classes up to c keeps within what these need
abbrev pub QueuesBounded : Type 0
QueuesBounded =
    (p c : ℕ) (fs : List FlowModel) (s : PortModel) → Within p fs → Run p fs s → waiting_below (c + 1) s.queues ≤ queue_need p c fs

-- The packets of a class that have left, the one being sent and those that wait are, in this order, all that passed, in the order in which
-- they passed: none overtakes another of its class, and none is lost.
abbrev pub NobodyOvertakes : Type 0
NobodyOvertakes =
    (p c : ℕ) (fs : List FlowModel) (s : PortModel) → Within p fs → (run : Run p fs s) → line_of fs c s ≡ passes_of p fs c run

-- in every state the port may take a packet or the tick may end
abbrev pub NeverStuck : Type 0
NeverStuck = (s : PortModel) → MayTick s ⊎ ((c : ℕ) × (w : Packet) × (rest : List Packet) × MayTake s c w rest)

-- all of these, and a promise that is met to the tick
pub record PortLaws : Type 0 where
  pub punctual : PortPunctual
  pub late : NobodyLate
  pub bounded : QueuesBounded
  pub order : NobodyOvertakes
  pub moves : NeverStuck
  pub met : PromiseMet
