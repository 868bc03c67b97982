-- What a whole net keeps, whatever its roads, also where ports wait for each other around a ring. Assumes nothing.
use Rattle.std.specs.Prelude.{◌≡◌, ℕ, suc, ◌+◌, ◌-◌, ◌^◌, ◌<◌, ◌≤◌, true, List, [], ◌∷◌, ◌++◌, length, slice_index, slice_index_or}
use Rattle.std.specs.List.{AllByRecursion as Each}
use Rattle.flows.specs.Net.{NetModel, port_at}
use Rattle.flows.specs.Flow.{FlowModel, SoundFlow}
use Rattle.promises.specs.Promises.{due, due_over, queue_need, regulator_need}
use Rattle.admission.specs.Rules.{Fits, switch_need, memory_of}
use Rattle.lines.specs.declared.packet.Packet.{Packet}
use Rattle.levels.specs.Regular.{Regular}
use Rattle.machine.specs.declared.leaving.Leaving.TheVariants.{Gone}
use Rattle.machine.specs.Phases.{leaves}
use Rattle.port.specs.Port.{flow_at}
use Rattle.egress.specs.Egress.{EgressModel, gate_at}
use Rattle.egress.specs.Plays.{Moment, left, passed, Plays}
use Rattle.egress.specs.Histories.{Directed, being_sent, left_in, left_at, came_at, passed_at, sent_on}
use Rattle.egress.specs.Laws.{ComesFrom, InDue}
use Rattle.network.specs.Admitted.{Admitted}
use Rattle.network.specs.Examples.{GoesRound}
use Rattle.network.specs.Held.{net_at, sent_before, queues_held, regulator_held, switch_held}
use Rattle.network.specs.Line.{lengths, delivered, along, from_source}
use Rattle.network.specs.Network.{starts, inner_gate, gate_of, setup_of, at_end, Sourced, net_left, net_run}

-- The ports of a net play together up to a tick: each of them plays, packets of a flow come to its regulators, and what comes over a
-- wire is what has left the port before as many ticks sooner as the wire takes.
pub record Together (net : NetModel) (fs : List FlowModel) (last : ℕ) (port : ℕ → ℕ → EgressModel) : Type 0 where
  pub plays : (t p : ℕ) → t ≤ last → Plays (setup_of net fs p) left (port t p)
  pub directed : (t p : ℕ) (until : t ≤ last) → Directed (setup_of net fs p) (gate_of fs p) (plays t p until)
  pub comes : (t p q c : ℕ) (until : t ≤ last) (sooner : t - suc (port_at net p).wire ≤ last) → p < length net.ports → c ≤ 7 →
      ComesFrom (setup_of net fs p) (setup_of net fs q) (inner_gate fs p c) c (port_at net p).wire left left
      (port (t - suc (port_at net p).wire) p) (port t q) (plays (t - suc (port_at net p).wire) p sooner) (plays t q until)

-- So they do where the flows are admitted together, as long as ticks are of 64 bits.
abbrev pub PlaysTogether : Type 0
PlaysTogether =
    (net : NetModel) (fs : List FlowModel) (rows : ℕ → List Sourced) (last : ℕ) → Admitted net fs rows → last + 255 < 2 ^ 64 →
    Together net fs last (λ t p. (net_left net fs rows t).port p)

-- Where ports play together, the last bit of each packet has left each port of its road within what its flow is due up to there, counted
-- from its mark, the tick at which it passed the edge;
abbrev pub AlongRoads : Type 0
AlongRoads =
    (net : NetModel) (fs : List FlowModel) (last : ℕ) (port : ℕ → ℕ → EgressModel) (run : Together net fs last port) →
    Each (SoundFlow net) fs → Fits net fs → (t flow p : ℕ) (before after : List ℕ) (until : t ≤ last) → flow < length fs →
    (flow_at fs flow).road ≡ before ++ p ∷ after →
    InDue flow (due_over net fs (flow_at fs flow).class (before ++ p ∷ []))
    (left_in (setup_of net fs p) (flow_at fs flow).class (run.plays t p until))
    (left_at (setup_of net fs p) (flow_at fs flow).class (run.plays t p until))

-- each that is being sent or waits in the queue of a port has time still,
abbrev pub RoadsOnTime : Type 0
RoadsOnTime =
    (net : NetModel) (fs : List FlowModel) (last : ℕ) (port : ℕ → ℕ → EgressModel) (run : Together net fs last port) →
    Each (SoundFlow net) fs → Fits net fs → (t flow p : ℕ) (before after : List ℕ) (until : t ≤ last) → flow < length fs →
    (flow_at fs flow).road ≡ before ++ p ∷ after →
    Each (λ w. w.flow ≡ flow → (port t p).machine.tick < w.edge + due_over net fs (flow_at fs flow).class (before ++ p ∷ []))
    (being_sent (setup_of net fs p).classes (flow_at fs flow).class (port t p).machine.sending ++
    slice_index_or (port t p).machine.queues (flow_at fs flow).class [])

-- and each that waits behind the regulator of the next port is not past the tick by which it passes there.
abbrev pub RegulatorsOnTime : Type 0
RegulatorsOnTime =
    (net : NetModel) (fs : List FlowModel) (last : ℕ) (port : ℕ → ℕ → EgressModel) (run : Together net fs last port) →
    Each (SoundFlow net) fs → Fits net fs → (t flow p q : ℕ) (before after : List ℕ) (until : t ≤ last) → flow < length fs →
    (flow_at fs flow).road ≡ before ++ p ∷ q ∷ after →
    Each
    (λ w.
    w.flow ≡ flow →
    (port t q).machine.tick ≤ w.edge + (due_over net fs (flow_at fs flow).class (before ++ p ∷ []) + (port_at net p).wire))
    (gate_at (port t q).gates (inner_gate fs p (flow_at fs flow).class)).waits

-- So in the net: a packet whose last bit leaves a port of its road in a tick does so within what its flow is due up to there, whatever
-- else is sent;
abbrev pub EndToEnd : Type 0
EndToEnd =
    (net : NetModel) (fs : List FlowModel) (rows : ℕ → List Sourced) (t p : ℕ) (w : Packet) (before after : List ℕ) →
    Admitted net fs rows → t + 256 < 2 ^ 64 → (flow_at fs w.flow).road ≡ before ++ p ∷ after →
    leaves (t + 1) ((net_run net fs rows t).port p).machine.sending ≡ Gone w →
    t + 1 ≤ w.edge + due_over net fs (flow_at fs w.flow).class (before ++ p ∷ [])

-- and at the last port of its road within the deadline.
abbrev pub BeforeDeadline : Type 0
BeforeDeadline =
    (net : NetModel) (fs : List FlowModel) (rows : ℕ → List Sourced) (t p : ℕ) (w : Packet) (before : List ℕ) →
    Admitted net fs rows → t + 256 < 2 ^ 64 → (flow_at fs w.flow).road ≡ before ++ p ∷ [] →
    leaves (t + 1) ((net_run net fs rows t).port p).machine.sending ≡ Gone w →
    t + 1 ≤ w.edge + (flow_at fs w.flow).deadline

-- So a packet that is delivered was on its way from the edge for no longer than its flow is due and its last wire takes.
abbrev pub DeliveredInTime : Type 0
DeliveredInTime =
    (net : NetModel) (fs : List FlowModel) (rows : ℕ → List Sourced) (t p : ℕ) → Admitted net fs rows → t + 255 < 2 ^ 64 →
    Each
    (λ w.
    (before : List ℕ) → (flow_at fs w.flow).road ≡ before ++ p ∷ [] →
    t ≤ w.edge + due net fs (flow_at fs w.flow) + (port_at net p).wire)
    (at_end ((net_left net fs rows t).wire p))

-- At every moment the queues of classes up to c of a port hold no more than they need,
abbrev pub QueuesKept : Type 0
QueuesKept =
    (net : NetModel) (fs : List FlowModel) (rows : ℕ → List Sourced) (m : Moment) (t q c : ℕ) → Admitted net fs rows → t + 255 < 2 ^ 64 →
    queues_held (net_at net fs rows m t) q (c + 1) ≤ queue_need q c fs

-- a regulator inside no more than it needs, so that nobody is refused there,
abbrev pub RegulatorsKept : Type 0
RegulatorsKept =
    (net : NetModel) (fs : List FlowModel) (rows : ℕ → List Sourced) (m : Moment) (t p q c : ℕ) → Admitted net fs rows → t + 255 < 2 ^ 64 →
    p < length net.ports → c ≤ 7 → regulator_held fs (net_at net fs rows m t) p q c ≤ regulator_need p q c fs

-- a switch no more than it needs,
abbrev pub SwitchesKept : Type 0
SwitchesKept =
    (net : NetModel) (fs : List FlowModel) (rows : ℕ → List Sourced) (m : Moment) (t switch : ℕ) → Admitted net fs rows → t + 255 < 2 ^ 64 →
    length net.ports ≤ 64 → switch_held net fs (net_at net fs rows m t) switch (length net.ports) ≤ switch_need net fs switch

-- and so no more than its memory.
abbrev pub MemoriesKept : Type 0
MemoriesKept =
    (net : NetModel) (fs : List FlowModel) (rows : ℕ → List Sourced) (m : Moment) (t switch : ℕ) → Admitted net fs rows → t + 255 < 2 ^ 64 →
    length net.ports ≤ 64 → switch < length net.memories →
    switch_held net fs (net_at net fs rows m t) switch (length net.ports) ≤ memory_of net switch

-- Regulating costs nothing: where each packet that comes over a wire came within so many ticks of its pass at the port before, each passes
-- the regulator within as many ticks of it.
abbrev pub CostsNothing : Type 0
CostsNothing =
    (net : NetModel) (fs : List FlowModel) (last : ℕ) (port : ℕ → ℕ → EgressModel) (run : Together net fs last port) →
    Each (SoundFlow net) fs → Fits net fs → (t p q c bound : ℕ) (until : t ≤ last) (sooner : t - suc (port_at net p).wire ≤ last) →
    p < length net.ports → c ≤ 7 →
    ((n : ℕ) → n < length (came_at (setup_of net fs q) (inner_gate fs p c) (run.plays t q until)) →
    slice_index (came_at (setup_of net fs q) (inner_gate fs p c) (run.plays t q until)) n ≤
    sent_on (setup_of net fs p) c q (run.plays (t - suc (port_at net p).wire) p sooner) n + bound) →
    (n : ℕ) → n < length (passed_at (setup_of net fs q) (inner_gate fs p c) (run.plays t q until)) →
    slice_index (passed_at (setup_of net fs q) (inner_gate fs p c) (run.plays t q until)) n ≤
    sent_on (setup_of net fs p) c q (run.plays (t - suc (port_at net p).wire) p sooner) n + bound

-- Where a source keeps to its burst and rate, each of its packets passes the edge in the tick in which it comes: none waits there.
abbrev pub RegularWaitsNot : Type 0
RegularWaitsNot =
    (net : NetModel) (fs : List FlowModel) (rows : ℕ → List Sourced) (t q flow : ℕ) → Admitted net fs rows → t + 255 < 2 ^ 64 →
    starts q (flow_at fs flow).road ≡ true →
    Regular (flow_at fs flow).burst (flow_at fs flow).rate (sent_before flow rows (suc t)) →
    (gate_at ((net_at net fs rows passed t).port q).gates flow).waits ≡ []

-- Nobody is lost, and nobody overtakes within a flow: the packets that came from its source are, in this order and each once, delivered,
-- on the wire of the last port of its road, sent by that port, in its queue, behind its regulator, and so on back to the edge.
abbrev pub NobodyLost : Type 0
NobodyLost =
    (net : NetModel) (fs : List FlowModel) (rows : ℕ → List Sourced) (t flow last : ℕ) (before : List ℕ) → Admitted net fs rows → t + 255 < 2 ^ 64 →
    (flow_at fs flow).road ≡ before ++ last ∷ [] →
    lengths (delivered net fs rows flow last t ++ along fs (net_left net fs rows t) flow (before ++ last ∷ [])) ≡ from_source flow rows t

pub record NetworkLaws : Type 0 where
  pub together : PlaysTogether
  pub along : AlongRoads
  pub on_time : RoadsOnTime
  pub waits : RegulatorsOnTime
  pub ends : EndToEnd
  pub deadline : BeforeDeadline
  pub delivered : DeliveredInTime
  pub queues : QueuesKept
  pub regulators : RegulatorsKept
  pub switches : SwitchesKept
  pub memories : MemoriesKept
  pub costless : CostsNothing
  pub source : RegularWaitsNot
  pub lost : NobodyLost
  pub round : GoesRound
