-- A tick of the code at a port is the phases of a tick there, and so all that is said of these holds of it. Assumes nothing.
use Rattle.std.specs.Prelude.{◌≡◌, true, Some, ℕ, ◌+◌, ◌^◌, ◌<◌, ◌≤◌, List, [], ◌∷◌, ◌++◌, map, length, slice_index, slice_index_or}
use Rattle.promises.specs.Promises.{promise, queue_need, regulator_need}
use Rattle.std.specs.List.{AllByRecursion as Each}
use Rattle.lines.specs.declared.packet.Packet.{Packet}
use Rattle.lines.specs.Ticks.{ticks_of as ticks_waiting}
use Rattle.queues.specs.Lines.{ticks_of, sum_to}
use Rattle.port.specs.Port.{flow_at}
use Rattle.machine.specs.Phases.{leaves}
use Rattle.levels.specs.Levels.{LevelModel}
use Rattle.regulators.specs.declared.coming.Coming.{Coming}
use Rattle.regulators.specs.Laws.{TickDoes, packets_of}
use Rattle.egress.specs.Egress.{EgressModel, Accepted, numbered, come_phase, then_phases}
use Rattle.egress.specs.Plays.{Setup, Enough, Belongs, MayCome, Moment, Plays, left, came, took, comes}
use Rattle.egress.specs.Histories.{Directed, came_by, came_at}
use Rattle.egress.specs.Laws.{SentBefore, GoesHere, EgressLaws}
use Rattle.bridge.specs.Ports.{Stand, edge, inside, is_edge, GateState, PortState, tick_at, one_tick, port_tick, port_left, gone}
use Rattle.bridge.specs.Examples.{Worked}
use Rattle.bridge.specs.Runs.{egress_of, Runs}

-- Each regulator does in the tick what a regulator does, with the levels and the queues that the one before left. With those who were
-- accepted at each, and those who were refused.
pub data EachDoes (room : ℕ) (classes : List ℕ) (tick : ℕ) : List GateState → List LevelModel → List (List Packet) → List (List Coming) → List (List Coming) → Type 0 where
  none : {levels : List LevelModel} {queues : List (List Packet)} → EachDoes room classes tick [] levels queues [] []
  also : {g : GateState} {gates : List GateState} {levels : List LevelModel} {queues : List (List Packet)} {accepted others : List (List Coming)}
      (does : TickDoes (tick_at room classes tick g.stand g.waits levels queues) room (is_edge g.stand) classes tick g.waits levels queues g.coming) →
      EachDoes room classes tick gates (one_tick room classes tick g levels queues).opened.levels (one_tick room classes tick g levels queues).opened.queues accepted others →
      EachDoes room classes tick (g ∷ gates) levels queues (does.accepted ∷ accepted) (does.others ∷ others)

-- the numbers of those in rows
unfoldable pub numbers_of : List (List Coming) → List ℕ
numbers_of [] = []
numbers_of (row ∷ rows) = map (λ c. c.number) row ++ numbers_of rows

-- what a tick at a port is
pub record TickIsPhases (room : ℕ) (classes : List ℕ) (tick : ℕ) (s : PortState) : Type 0 where
  pub accepted : List (List Coming)
  pub others : List (List Coming)
  pub each : EachDoes room classes tick s.gates s.levels s.queues accepted others
  -- those who were not accepted were refused, in the order of the regulators
  pub numbers : (port_tick room classes tick s).refused ≡ numbers_of others
  -- those who were accepted come, then what may pass passes, and then the port takes
  pub phases : egress_of tick (port_tick room classes tick s).port ≡ then_phases room classes (numbered 0 (map packets_of accepted)) (egress_of tick s)
  -- the regulators stand where they stood, and nobody comes any more
  pub stand : map (λ (g : GateState). g.stand) (port_tick room classes tick s).port.gates ≡ map (λ (g : GateState). g.stand) s.gates
  pub nobody : Each (λ (g : GateState). g.coming ≡ []) (port_tick room classes tick s).port.gates

-- who comes to a regulator is of a flow over this port, and enters the net there only at the edge
abbrev pub Comes : Setup → GateState → Type 0
Comes a g = Each (λ c. Belongs a (is_edge g.stand) c.packet) g.coming

-- So where the state of a port is one of a run of phases, the state after the tick is one too,
abbrev pub PlaysOn : Type 0
PlaysOn =
    (a : Setup) (tick : ℕ) (s : PortState) → Enough a → Plays a left (egress_of tick s) → Each (Comes a) s.gates → tick + 255 < 2 ^ 64 →
    Plays a took (egress_of tick (port_tick a.room a.classes tick s).port)

-- and so is that in which the next tick begins, when what leaves in it has left.
abbrev pub LeavesOn : Type 0
LeavesOn =
    (a : Setup) (tick : ℕ) (s : PortState) → Plays a took (egress_of tick s) → Plays a left (egress_of (tick + 1) (port_left (tick + 1) s))

-- So every state to which the code comes is one of a run of phases.
abbrev pub RunsPlay : Type 0
RunsPlay = (a : Setup) (tick : ℕ) (s : PortState) → Enough a → Runs a tick s → Plays a left (egress_of tick s)

-- A packet that entered the net at this port leaves within what the port promises its class, counted from its pass.
abbrev pub LeavesInTime : Type 0
LeavesInTime =
    (a : Setup) (tick : ℕ) (s : PortState) (packet : Packet) → Enough a → Runs a tick s → tick + 255 < 2 ^ 64 → a.enters packet.flow ≡ true →
    gone (leaves (tick + 1) (port_tick a.room a.classes tick s).port.sending) ≡ Some packet →
    tick + 1 ≤ packet.edge + promise a.port (flow_at a.flows packet.flow).class a.flows

-- What waits in the queues of classes up to c keeps within what these need.
abbrev pub QueuesKept : Type 0
QueuesKept =
    (a : Setup) (tick : ℕ) (s : PortState) (c : ℕ) → Enough a → Runs a tick s →
    sum_to (c + 1) (λ d. ticks_of (slice_index_or s.queues d [])) ≤ queue_need a.port c a.flows

-- At the edge no more than 64 packets wait, and inside no more ticks than are set aside.
abbrev pub Roomy : Stand → List Packet → Type 0
Roomy (edge flow) waits = length waits ≤ 64
Roomy (inside from class aside) waits = ticks_waiting waits ≤ aside

abbrev pub RoomKept : Type 0
RoomKept = (a : Setup) (tick : ℕ) (s : PortState) → Runs a tick s → Each (λ (g : GateState). Roomy g.stand g.waits) s.gates

-- the regulator at a place, and rows of all who come in this tick
abbrev pub no_gate : GateState
no_gate = record { stand = edge 0; waits = []; coming = [] }

abbrev pub gate_here : List GateState → ℕ → GateState
gate_here gates k = slice_index_or gates k no_gate

abbrev pub all_rows : List GateState → List (List Packet)
all_rows gates = map (λ g. packets_of g.coming) gates

-- if all who come are accepted
abbrev pub all_come : PortState → List Accepted
all_come s = numbered 0 (all_rows s.gates)

-- what comes to regulator k comes as a port before promises its class, over a wire that takes so many ticks
pub record AsPromised (a : Setup) (to : ℕ → ℕ) (k from class wire : ℕ) (sent : ℕ → ℕ) (m : Moment) (e : EgressModel) (plays : Plays a m e) : Type 0 where
  pub directed : Directed a to plays
  pub here : Each (GoesHere a from class) (came_by a k plays)
  pub before : SentBefore a k (promise from class a.flows + wire) sent m e plays
  pub late : (n : ℕ) → n < length (came_at a k plays) → sent n + wire ≤ slice_index (came_at a k plays) n

-- Then a regulator inside with as many ticks set aside as it needs refuses nobody, if all who come are accepted elsewhere too.
abbrev pub NobodyRefused : Type 0
NobodyRefused =
    (a : Setup) (tick : ℕ) (s : PortState) (plays : Plays a left (egress_of tick s)) (some : Each (MayCome a) (all_come s))
    (to : ℕ → ℕ) (k from class aside wire : ℕ) (sent : ℕ → ℕ) (levels : List LevelModel) (queues : List (List Packet)) → Enough a →
    k < length s.gates → (gate_here s.gates k).stand ≡ inside from class aside → regulator_need from a.port class a.flows ≤ aside →
    AsPromised a to k from class wire sent came (come_phase (all_come s) (egress_of tick s)) (comes (all_come s) plays some) →
    (one_tick a.room a.classes tick (gate_here s.gates k) levels queues).refused ≡ []

pub record BridgeLaws : Type 0 where
  pub phases : (room : ℕ) (classes : List ℕ) (tick : ℕ) (s : PortState) → TickIsPhases room classes tick s
  pub plays : PlaysOn
  pub leaves : LeavesOn
  pub runs : RunsPlay
  pub in_time : LeavesInTime
  pub queues : QueuesKept
  pub room : RoomKept
  pub nobody : NobodyRefused
  pub worked : Worked
  pub egress : EgressLaws
