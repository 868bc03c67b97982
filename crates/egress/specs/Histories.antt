-- What came to the regulators of a port and what passed them, over all its ticks. Assumes nothing.
use Rattle.std.specs.Prelude.{◌≡◌, ℕ, ◌+◌, cond, List, [], ◌∷◌, ◌++◌, map, Some, None, Option, ◌==◌, slice_index_or}
use Rattle.std.specs.List.{AllByRecursion as Each}
use Rattle.flows.specs.Flow.{FlowModel}
use Rattle.promises.specs.Promises.{goes}
use Rattle.lines.specs.declared.packet.Packet.{Packet}
use Rattle.levels.specs.Regular.{Pass}
use Rattle.gates.specs.Gates.{marked, class_of}
use Rattle.gates.specs.Laws.{of_class, of_flow, passing}
use Rattle.port.specs.Port.{flow_at}
use Rattle.machine.specs.declared.sending.Sending.{Sending}
use Rattle.machine.specs.declared.leaving.Leaving.{Leaving}
use Rattle.machine.specs.declared.leaving.Leaving.TheVariants.{Gone, Busy, Idle}
use Rattle.machine.specs.Phases.{leaves as gone_at}
use Rattle.egress.specs.Egress.{GateModel, EgressModel, Accepted, all_passers}
use Rattle.egress.specs.Plays.{Setup, Moment, Plays, begins, comes, passes, takes, leaves}

-- those for one regulator of all who come in a tick
unfoldable pub for_gate : ℕ → List Accepted → List Packet
for_gate k [] = []
for_gate k (c ∷ cs) = cond (c.gate == k) (c.packet ∷ for_gate k cs) (for_gate k cs)

-- those who pass the first regulator, then those who pass the second, and so on
unfoldable pub in_turn : List (List Packet) → List Packet
in_turn [] = []
in_turn (row ∷ rows) = row ++ in_turn rows

-- and those of a class, as they go into its queue
unfoldable pub entering : List ℕ → ℕ → ℕ → List GateModel → List (List Packet) → List Packet
entering classes class tick [] rows = []
entering classes class tick (gate ∷ gates) [] = []
entering classes class tick (gate ∷ gates) (row ∷ rows) =
    map (marked gate.at_edge tick) (of_class classes class row) ++ entering classes class tick gates rows

-- over all ticks, in the order in which they went into the queue of the class
unfoldable pub entered_in : (a : Setup) (class : ℕ) {m : Moment} {e : EgressModel} → Plays a m e → List Packet
entered_in a class begins = []
entered_in a class (comes cs plays some) = entered_in a class plays
entered_in a class (passes {e = e} plays) =
    entered_in a class plays ++ entering a.classes class e.machine.tick e.gates (all_passers a.room a.classes e.gates e.machine)
entered_in a class (takes plays clock) = entered_in a class plays
entered_in a class (leaves plays) = entered_in a class plays

-- a packet, if it is of the class
abbrev pub in_class : List ℕ → ℕ → Packet → List Packet
in_class classes class packet = cond (class_of classes packet == class) (packet ∷ []) []

abbrev pub being_sent : List ℕ → ℕ → Option Sending → List Packet
being_sent classes class None = []
being_sent classes class (Some x) = in_class classes class x.packet

abbrev pub gone_of : List ℕ → ℕ → Leaving → List Packet
gone_of classes class (Gone packet) = in_class classes class packet
gone_of classes class (Busy x) = []
gone_of classes class Idle = []

-- those of the class whose last bit has left, in the order in which they left
unfoldable pub left_in : (a : Setup) (class : ℕ) {m : Moment} {e : EgressModel} → Plays a m e → List Packet
left_in a class begins = []
left_in a class (comes cs plays some) = left_in a class plays
left_in a class (passes plays) = left_in a class plays
left_in a class (takes plays clock) = left_in a class plays
left_in a class (leaves {e = e} plays) =
    left_in a class plays ++ gone_of a.classes class (gone_at (e.machine.tick + 1) e.machine.sending)

-- the ticks at which packets of the class went into its queue, and at which they left, in the same orders
unfoldable pub entered_at : (a : Setup) (class : ℕ) {m : Moment} {e : EgressModel} → Plays a m e → List ℕ
entered_at a class begins = []
entered_at a class (comes cs plays some) = entered_at a class plays
entered_at a class (passes {e = e} plays) =
    entered_at a class plays ++
    map (λ _. e.machine.tick) (entering a.classes class e.machine.tick e.gates (all_passers a.room a.classes e.gates e.machine))
entered_at a class (takes plays clock) = entered_at a class plays
entered_at a class (leaves plays) = entered_at a class plays

unfoldable pub left_at : (a : Setup) (class : ℕ) {m : Moment} {e : EgressModel} → Plays a m e → List ℕ
left_at a class begins = []
left_at a class (comes cs plays some) = left_at a class plays
left_at a class (passes plays) = left_at a class plays
left_at a class (takes plays clock) = left_at a class plays
left_at a class (leaves {e = e} plays) =
    left_at a class plays ++ map (λ _. e.machine.tick + 1) (gone_of a.classes class (gone_at (e.machine.tick + 1) e.machine.sending))

-- when packets of a flow passed into the queues of the port, the latest first
unfoldable pub passed_in : (a : Setup) (flow : ℕ) {m : Moment} {e : EgressModel} → Plays a m e → List Pass
passed_in a flow begins = []
passed_in a flow (comes cs plays some) = passed_in a flow plays
passed_in a flow (passes {e = e} plays) =
    passing e.machine.tick (of_flow flow (in_turn (all_passers a.room a.classes e.gates e.machine))) (passed_in a flow plays)
passed_in a flow (takes plays clock) = passed_in a flow plays
passed_in a flow (leaves plays) = passed_in a flow plays

-- when packets came to a regulator, the latest first
unfoldable pub came_to : (a : Setup) (k : ℕ) {m : Moment} {e : EgressModel} → Plays a m e → List Pass
came_to a k begins = []
came_to a k (comes {e = e} cs plays some) = passing e.machine.tick (for_gate k cs) (came_to a k plays)
came_to a k (passes plays) = came_to a k plays
came_to a k (takes plays clock) = came_to a k plays
came_to a k (leaves plays) = came_to a k plays

-- the packets that came to it, and those that passed it, in their order
unfoldable pub came_by : (a : Setup) (k : ℕ) {m : Moment} {e : EgressModel} → Plays a m e → List Packet
came_by a k begins = []
came_by a k (comes cs plays some) = came_by a k plays ++ for_gate k cs
came_by a k (passes plays) = came_by a k plays
came_by a k (takes plays clock) = came_by a k plays
came_by a k (leaves plays) = came_by a k plays

unfoldable pub passed_by : (a : Setup) (k : ℕ) {m : Moment} {e : EgressModel} → Plays a m e → List Packet
passed_by a k begins = []
passed_by a k (comes cs plays some) = passed_by a k plays
passed_by a k (passes {e = e} plays) = passed_by a k plays ++ slice_index_or (all_passers a.room a.classes e.gates e.machine) k []
passed_by a k (takes plays clock) = passed_by a k plays
passed_by a k (leaves plays) = passed_by a k plays

-- and the ticks at which they did
unfoldable pub came_at : (a : Setup) (k : ℕ) {m : Moment} {e : EgressModel} → Plays a m e → List ℕ
came_at a k begins = []
came_at a k (comes {e = e} cs plays some) = came_at a k plays ++ map (λ _. e.machine.tick) (for_gate k cs)
came_at a k (passes plays) = came_at a k plays
came_at a k (takes plays clock) = came_at a k plays
came_at a k (leaves plays) = came_at a k plays

unfoldable pub passed_at : (a : Setup) (k : ℕ) {m : Moment} {e : EgressModel} → Plays a m e → List ℕ
passed_at a k begins = []
passed_at a k (comes cs plays some) = passed_at a k plays
passed_at a k (passes {e = e} plays) =
    passed_at a k plays ++ map (λ _. e.machine.tick) (slice_index_or (all_passers a.room a.classes e.gates e.machine) k [])
passed_at a k (takes plays clock) = passed_at a k plays
passed_at a k (leaves plays) = passed_at a k plays

-- where all packets of a flow come to the same regulator
unfoldable pub Directed : (a : Setup) (to : ℕ → ℕ) {m : Moment} {e : EgressModel} → Plays a m e → Type 0
Directed a to begins = Unit {0}
Directed a to (comes cs plays some) = Each (λ (c : Accepted). to c.packet.flow ≡ c.gate) cs × Directed a to plays
Directed a to (passes plays) = Directed a to plays
Directed a to (takes plays clock) = Directed a to plays
Directed a to (leaves plays) = Directed a to plays

-- The passes of a flow at the port before, the latest first, where packet n of these passed there at tick sent n; the first of these is
-- packet n.
unfoldable pub passes_before : ℕ → ℕ → List Packet → (ℕ → ℕ) → List Pass → List Pass
passes_before flow n [] sent history = history
passes_before flow n (packet ∷ packets) sent history =
    passes_before flow (n + 1) packets sent (cond (packet.flow == flow) (record { at = sent n; len = packet.length } ∷ history) history)

-- a packet is one of this flow exactly if it comes to this regulator
pub record Owns (flow k : ℕ) (c : Accepted) : Type 0 where
  pub only : c.gate ≡ k → c.packet.flow ≡ flow
  pub all : c.packet.flow ≡ flow → c.gate ≡ k

-- the flow has a regulator of its own
unfoldable pub OwnRegulator : (a : Setup) (flow k : ℕ) {m : Moment} {e : EgressModel} → Plays a m e → Type 0
OwnRegulator a flow k begins = Unit {0}
OwnRegulator a flow k (comes cs plays some) = Each (Owns flow k) cs × OwnRegulator a flow k plays
OwnRegulator a flow k (passes plays) = OwnRegulator a flow k plays
OwnRegulator a flow k (takes plays clock) = OwnRegulator a flow k plays
OwnRegulator a flow k (leaves plays) = OwnRegulator a flow k plays

-- those of a row of packets whose road goes from port p directly to port q, and of the numbers beside them
unfoldable pub onward : List FlowModel → ℕ → ℕ → List Packet → List Packet
onward flows p q [] = []
onward flows p q (packet ∷ packets) =
    cond (goes p q (flow_at flows packet.flow).road) (packet ∷ onward flows p q packets) (onward flows p q packets)

unfoldable pub beside : List FlowModel → ℕ → ℕ → List Packet → List ℕ → List ℕ
beside flows p q [] ticks = []
beside flows p q (packet ∷ packets) [] = []
beside flows p q (packet ∷ packets) (tick ∷ ticks) =
    cond (goes p q (flow_at flows packet.flow).road) (tick ∷ beside flows p q packets ticks) (beside flows p q packets ticks)

-- the ticks at which those of a class that have left a port and go on to port q went into its queue, and then the tick of the port
abbrev pub sent_on : (a : Setup) (class q : ℕ) {m : Moment} {e : EgressModel} → Plays a m e → ℕ → ℕ
sent_on a class q {e = e} plays n =
    slice_index_or (beside a.flows a.port q (left_in a class plays) (entered_at a class plays)) n e.machine.tick
