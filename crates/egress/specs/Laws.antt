-- What a port does in its ticks with the regulators before it. Assumes nothing.
use Rattle.std.specs.Prelude.{◌≡◌, ℕ, ◌+◌, ◌^◌, ◌<◌, ◌≤◌, Bool, true, false, List, [], ◌∷◌, ◌++◌, map, length, Some, None, slice_index, slice_index_or}
use Rattle.std.specs.List.{AllByRecursion as Each}
use Rattle.promises.specs.Promises.{goes, promise, queue_need, regulator_need}
use Rattle.lines.specs.declared.packet.Packet.{Packet}
use Rattle.lines.specs.Lines.{head_of}
use Rattle.levels.specs.Levels.{may_pass}
use Rattle.levels.specs.Regular.{Regular}
use Rattle.queues.specs.Lines.{left_by, ticks_of, sum_to}
use Rattle.queues.specs.Laws.{IsFirst}
use Rattle.gates.specs.Gates.{level_of, may_go, opened}
use Rattle.gates.specs.Laws.{RegularFlow}
use Rattle.port.specs.Port.{flow_at}
use Rattle.machine.specs.declared.sending.Sending.{Sending}
use Rattle.machine.specs.declared.leaving.Leaving.TheVariants.{Gone}
use Rattle.machine.specs.Joint.{MachineModel}
use Rattle.machine.specs.Runs.{Fitting}
use Rattle.egress.specs.Egress.{GateModel, EgressModel, Accepted, gate_at, accept_all, numbered, put_rows, all_passers, pass_phase, take_phase, leave_phase, then_phases, whole_tick, after_ticks}
use Rattle.egress.specs.Histories.{for_gate, entering, entered_in, being_sent, left_in, entered_at, left_at, passed_in, came_to, came_by, passed_by, came_at, passed_at, passes_before, OwnRegulator, Directed, onward, beside, sent_on}
use Rattle.egress.specs.Examples.{LeavesAtEleven, PassAtTwenty}
use Rattle.egress.specs.Plays.{Setup, Enough, Reached, Belongs, MayCome, at_start, Moment, left, came, passed, took, Clocked, Plays}

-- the port is in a state to which passes, takes and ticks lead, and behind each regulator wait packets of its kind
pub record Legal (a : Setup) (e : EgressModel) : Type 0 where
  pub reached : Reached a e.machine
  pub edges : map (λ (g : GateModel). g.at_edge) e.gates ≡ a.edges
  pub belong : Each (λ (g : GateModel). Each (Belongs a g.at_edge) g.waits) e.gates

-- so it is at every moment
abbrev pub GoesOn : Type 0
GoesOn = (a : Setup) (m : Moment) (e : EgressModel) → Enough a → Plays a m e → Legal a e

-- whole ticks are these phases: what comes at tick 0, and then at each later one
abbrev pub TicksPlay : Type 0
TicksPlay =
    (a : Setup) (cs : List Accepted) (css : List (List Accepted)) → Each (MayCome a) cs → Each (Each (MayCome a)) css →
    length css + 255 < 2 ^ 64 →
    Plays a took (after_ticks a.room a.classes css (then_phases a.room a.classes cs (at_start a)))

-- a packet that entered the net at this port leaves it within what it promises the class
abbrev pub LeavesInTime : Type 0
LeavesInTime =
    (a : Setup) (cs : List Accepted) (e : EgressModel) (packet : Packet) → Enough a → Plays a took e → a.enters packet.flow ≡ true →
    (whole_tick a.room a.classes cs e).left ≡ Gone packet →
    e.machine.tick + 1 ≤ packet.edge + promise a.port (flow_at a.flows packet.flow).class a.flows

-- at every moment what waits in the queues of classes up to c keeps within what these need
abbrev pub QueuesKept : Type 0
QueuesKept =
    (a : Setup) (m : Moment) (e : EgressModel) (c : ℕ) → Enough a → Plays a m e →
    sum_to (c + 1) (λ d. ticks_of (slice_index_or e.machine.queues d [])) ≤ queue_need a.port c a.flows

-- after the port took it is idle only if nothing waits in its queues
abbrev pub NeverIdle : Type 0
NeverIdle =
    (a : Setup) (e : EgressModel) → Plays a took e → e.machine.sending ≡ None → (c : ℕ) → slice_index_or e.machine.queues c [] ≡ []

-- it takes the first packet of the lowest class that has one, whose last bit leaves as many ticks later as it is long
pub record TakesFirst (before after : MachineModel) (x : Sending) : Type 0 where
  pub class : ℕ
  pub first : IsFirst before.queues class x.packet
  pub until : x.until ≡ before.tick + x.packet.length
  pub left : after.queues ≡ left_by before.queues

abbrev pub LowestFirst : Type 0
LowestFirst =
    (a : Setup) (e : EgressModel) (x : Sending) → Enough a → Plays a passed e → Clocked e →
    e.machine.sending ≡ None → (take_phase e).machine.sending ≡ Some x →
    TakesFirst e.machine (take_phase e).machine x

-- who passes each regulator in a tick
abbrev pub passers_in : ℕ → List ℕ → List Accepted → EgressModel → List (List Packet)
passers_in room classes cs e =
    all_passers room classes (accept_all cs e.gates) (leave_phase e).machine

-- At each regulator those who pass in a tick and then those who still wait are those who waited and then those who came: nobody
-- is lost, and nobody overtakes.
abbrev pub NobodyOvertakes : Type 0
NobodyOvertakes =
    (room : ℕ) (classes : List ℕ) (cs : List Accepted) (e : EgressModel) (k : ℕ) → k < length e.gates →
    slice_index_or (passers_in room classes cs e) k [] ++ (gate_at (whole_tick room classes cs e).egress.gates k).waits ≡
    (gate_at e.gates k).waits ++ for_gate k cs

-- and so over all ticks
abbrev pub RegulatorsInOrder : Type 0
RegulatorsInOrder =
    (a : Setup) (m : Moment) (e : EgressModel) (plays : Plays a m e) (k : ℕ) → Enough a → k < length a.edges →
    passed_by a k plays ++ (gate_at e.gates k).waits ≡ came_by a k plays

-- those who come may be given as a row for each regulator
abbrev pub ComeByRow : Type 0
ComeByRow = (rows : List (List Packet)) (gates : List GateModel) → accept_all (numbered 0 rows) gates ≡ put_rows rows gates

-- Who passes a regulator and who waits is by the levels of their flows alone: on what waits in queues, and on other flows, it does not
-- depend.
abbrev pub ByLevelsAlone : Type 0
ByLevelsAlone =
    (a : Setup) (s t : MachineModel) (at_edge : Bool) (waits : List Packet) → Enough a → Reached a s → Reached a t → s.tick ≡ t.tick →
    Each (Belongs a at_edge) waits → Each (λ w. level_of s.levels w ≡ level_of t.levels w) waits →
    (opened a.room at_edge a.classes s.tick waits s.levels s.queues).waits ≡ (opened a.room at_edge a.classes t.tick waits t.levels t.queues).waits

-- when the regulators have been opened, the first that waits behind any of them may not pass, by what is then left of its level
abbrev pub NobodyPutOff : Type 0
NobodyPutOff =
    (room : ℕ) (classes : List ℕ) (e : EgressModel) (k : ℕ) (packet : Packet) →
    head_of (gate_at (pass_phase room classes e).gates k).waits ≡ Some packet →
    may_go room classes e.machine.tick packet (pass_phase room classes e).machine.levels (pass_phase room classes e).machine.queues ≡ false

-- with so many cells as the queues need ticks, a packet of a flow over this port may pass whenever its level is enough
abbrev pub RoomNeverBinds : Type 0
RoomNeverBinds =
    (a : Setup) (s : MachineModel) (packet : Packet) → Enough a → Reached a s → Fitting a.port a.flows a.classes packet →
    may_go a.room a.classes s.tick packet s.levels s.queues ≡ may_pass (level_of s.levels packet) s.tick packet.length

-- The queue of a class has, behind those who stood there, those of its class who passed: first those of the first regulator, then
-- those of the second, and so on.
abbrev pub QueuedInTurn : Type 0
QueuedInTurn =
    (room : ℕ) (classes : List ℕ) (e : EgressModel) (class : ℕ) → class < length e.machine.queues →
    slice_index_or (pass_phase room classes e).machine.queues class [] ≡
    slice_index_or e.machine.queues class [] ++
    entering classes class e.machine.tick e.gates (all_passers room classes e.gates e.machine)

-- The packets of a class whose last bit has left, the one that is being sent and those that wait are all that went into its queue, in
-- that order: nobody is lost, and none overtakes another of its class.
abbrev pub NobodyLost : Type 0
NobodyLost =
    (a : Setup) (m : Moment) (e : EgressModel) (plays : Plays a m e) (class : ℕ) → Enough a → class ≤ 7 →
    left_in a class plays ++ (being_sent a.classes class e.machine.sending ++ slice_index_or e.machine.queues class []) ≡
    entered_in a class plays

-- The last bit of each of them left within what the port promises the class, counted from the tick at which it went into the queue:
-- at the edge and inside.
abbrev pub EachInTime : Type 0
EachInTime =
    (a : Setup) (m : Moment) (e : EgressModel) (plays : Plays a m e) (class n : ℕ) → Enough a → class ≤ 7 →
    n < length (left_at a class plays) →
    slice_index (left_at a class plays) n ≤ slice_index (entered_at a class plays) n + promise a.port class a.flows

-- and each that has not left has time still
abbrev pub NobodyLate : Type 0
NobodyLate =
    (a : Setup) (m : Moment) (e : EgressModel) (plays : Plays a m e) (class n : ℕ) → Enough a → class ≤ 7 →
    length (left_at a class plays) ≤ n → n < length (entered_at a class plays) →
    e.machine.tick < slice_index (entered_at a class plays) n + promise a.port class a.flows

-- the ticks at which packets of a flow pass into the queues of the port are regular, and its level is the one after them
abbrev pub AlwaysRegular : Type 0
AlwaysRegular =
    (a : Setup) (m : Moment) (e : EgressModel) (plays : Plays a m e) (flow : ℕ) → flow < length a.flows →
    RegularFlow e.machine.levels flow (flow_at a.flows flow).burst (flow_at a.flows flow).rate e.machine.tick (passed_in a flow plays)

-- and the first that still waits behind a regulator would not be regular at this tick: it waits as long as the rule by rows says,
-- and no longer
abbrev pub NoLongerThanRows : Type 0
NoLongerThanRows =
    (a : Setup) (e : EgressModel) (plays : Plays a passed e) (k : ℕ) (packet : Packet) → Enough a →
    head_of (gate_at e.gates k).waits ≡ Some packet →
    Regular (flow_at a.flows packet.flow).burst (flow_at a.flows packet.flow).rate
    (record { at = e.machine.tick; len = packet.length } ∷ passed_in a packet.flow plays) → ⊥

-- where packets of a flow come to a regulator of its own at ticks that are regular, each passes at the tick at which it comes, and
-- none waits there
abbrev pub RegularWaitsNot : Type 0
RegularWaitsNot =
    (a : Setup) (e : EgressModel) (plays : Plays a passed e) (flow k : ℕ) → Enough a → k < length a.edges →
    OwnRegulator a flow k plays → Regular (flow_at a.flows flow).burst (flow_at a.flows flow).rate (came_to a k plays) →
    (passed_in a flow plays ≡ came_to a k plays) × ((gate_at e.gates k).waits ≡ [])

-- The packets that come to a regulator passed at the port before in the order in which they come, at ticks that are regular for each
-- flow, and each came within so many ticks of its pass there.
pub record SentBefore (a : Setup) (k bound : ℕ) (sent : ℕ → ℕ) (m : Moment) (e : EgressModel) (plays : Plays a m e) : Type 0 where
  pub order : (i j : ℕ) → i ≤ j → sent i ≤ sent j
  pub regular : (flow : ℕ) → Regular (flow_at a.flows flow).burst (flow_at a.flows flow).rate (passes_before flow 0 (came_by a k plays) sent [])
  pub within : (n : ℕ) → n < length (came_at a k plays) → slice_index (came_at a k plays) n ≤ sent n + bound

-- before what may pass has passed, who waits may be due at this tick; afterwards, only at a later one
abbrev pub NotDue : Moment → ℕ → ℕ → Type 0
NotDue left tick due = tick ≤ due
NotDue came tick due = tick ≤ due
NotDue passed tick due = tick < due
NotDue took tick due = tick < due

-- Then each passes within as many ticks of its pass there, and who waits has time still: a regulator costs nothing.
abbrev pub CostsNothing : Type 0
CostsNothing =
    (a : Setup) (m : Moment) (e : EgressModel) (plays : Plays a m e) (to : ℕ → ℕ) (k bound : ℕ) (sent : ℕ → ℕ) → Enough a →
    k < length a.edges → Directed a to plays → SentBefore a k bound sent m e plays →
    ((n : ℕ) → n < length (passed_at a k plays) → slice_index (passed_at a k plays) n ≤ sent n + bound) ×
    ((n : ℕ) → length (passed_by a k plays) ≤ n → n < length (came_by a k plays) → NotDue m e.machine.tick (sent n + bound))

-- What comes to regulator k of port b is what has left port a in class c and goes there, each so many ticks later: the run of port a is
-- one up to as many ticks before.
pub record ComesFrom (a b : Setup) (k c wire : ℕ) (m n : Moment) (d e : EgressModel) (before : Plays a m d) (plays : Plays b n e) : Type 0 where
  pub flows : b.flows ≡ a.flows
  pub packets : came_by b k plays ≡ onward a.flows a.port b.port (left_in a c before)
  pub ticks : came_at b k plays ≡ map (λ t. t + wire) (beside a.flows a.port b.port (left_in a c before) (left_at a c before))

-- Then it comes as the laws of a regulator ask: within what port a promises the class and the ticks of the wire, and no sooner than those
-- of the wire.
abbrev pub PortToPort : Type 0
PortToPort =
    (a b : Setup) (k c wire : ℕ) (m n : Moment) (d e : EgressModel) (before : Plays a m d) (plays : Plays b n e) → Enough a → c ≤ 7 →
    ComesFrom a b k c wire m n d e before plays →
    SentBefore b k (promise a.port c a.flows + wire) (sent_on a c b.port before) n e plays ×
    ((i : ℕ) → i < length (came_at b k plays) → sent_on a c b.port before i + wire ≤ slice_index (came_at b k plays) i)

-- a flow of class c that goes from port p directly to this port
pub record GoesHere (a : Setup) (p c : ℕ) (w : Packet) : Type 0 where
  pub class : (flow_at a.flows w.flow).class ≡ c
  pub road : goes p a.port (flow_at a.flows w.flow).road ≡ true

-- Behind the regulator of port p and class c never waits more than it needs, where packets come as p promises and a wire between takes
-- so many ticks: so nobody who comes there is refused.
abbrev pub RegulatorKept : Type 0
RegulatorKept =
    (a : Setup) (m : Moment) (e : EgressModel) (plays : Plays a m e) (to : ℕ → ℕ) (k p c wire : ℕ) (sent : ℕ → ℕ) → Enough a →
    k < length a.edges → Directed a to plays → Each (GoesHere a p c) (came_by a k plays) →
    SentBefore a k (promise p c a.flows + wire) sent m e plays →
    ((n : ℕ) → n < length (came_at a k plays) → sent n + wire ≤ slice_index (came_at a k plays) n) →
    ticks_of (gate_at e.gates k).waits ≤ regulator_need p a.port c a.flows

-- what a row of packets did, each at the tick beside it, those of a flow did within so many ticks of their marks
abbrev pub InDue : ℕ → ℕ → List Packet → List ℕ → Type 0
InDue flow due [] ticks = Unit {0}
InDue flow due (packet ∷ packets) [] = Unit {0}
InDue flow due (packet ∷ packets) (tick ∷ ticks) = (packet.flow ≡ flow → tick ≤ packet.edge + due) × InDue flow due packets ticks

-- Along a road: a flow whose packets went into the queue of a port in due time leaves it so, with the promise added,
abbrev pub LeavesInDue : Type 0
LeavesInDue =
    (a : Setup) (m : Moment) (e : EgressModel) (plays : Plays a m e) (c flow due : ℕ) → Enough a → c ≤ 7 →
    InDue flow due (entered_in a c plays) (entered_at a c plays) →
    InDue flow (due + promise a.port c a.flows) (left_in a c plays) (left_at a c plays)

-- passes the regulator before the next port so, with the promise and the ticks of the wire added,
abbrev pub PassesInDue : Type 0
PassesInDue =
    (a b : Setup) (to : ℕ → ℕ) (k c wire flow due : ℕ) (m n : Moment) (d e : EgressModel) (before : Plays a m d) (plays : Plays b n e) →
    Enough a → Enough b → c ≤ 7 → k < length b.edges → Directed b to plays → ComesFrom a b k c wire m n d e before plays →
    InDue flow due (entered_in a c before) (entered_at a c before) →
    InDue flow (due + (promise a.port c a.flows + wire)) (passed_by b k plays) (passed_at b k plays)

-- and goes into a queue of that port so. At the edge it is marked as it passes, and is due at once.
abbrev pub EntersInDue : Type 0
EntersInDue =
    (a : Setup) (m : Moment) (e : EgressModel) (plays : Plays a m e) (c flow due : ℕ) → Enough a →
    ((k : ℕ) → k < length a.edges → slice_index_or a.edges k false ≡ false → InDue flow due (passed_by a k plays) (passed_at a k plays)) →
    InDue flow due (entered_in a c plays) (entered_at a c plays)

pub record EgressLaws : Type 0 where
  pub goes : GoesOn
  pub ticks : TicksPlay
  pub leave : LeavesInTime
  pub queues : QueuesKept
  pub idle : NeverIdle
  pub first : LowestFirst
  pub order : NobodyOvertakes
  pub regulators : RegulatorsInOrder
  pub row : ComeByRow
  pub alone : ByLevelsAlone
  pub put_off : NobodyPutOff
  pub room : RoomNeverBinds
  pub turn : QueuedInTurn
  pub lost : NobodyLost
  pub in_time : EachInTime
  pub late : NobodyLate
  pub regular : AlwaysRegular
  pub rows : NoLongerThanRows
  pub source : RegularWaitsNot
  pub costless : CostsNothing
  pub regulator : RegulatorKept
  pub next : PortToPort
  pub leaves_due : LeavesInDue
  pub passes_due : PassesInDue
  pub enters_due : EntersInDue
  pub eleven : LeavesAtEleven
  pub twenty : PassAtTwenty
