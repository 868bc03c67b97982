-- Where the packets of a flow are, in the order in which they came from its source. Assumes nothing.
use Rattle.std.specs.Prelude.{ℕ, zero, suc, cond, ◌==◌, List, [], ◌∷◌, ◌++◌, map, Some, None, Option, slice_index_or}
use Rattle.flows.specs.Flow.{FlowModel}
use Rattle.lines.specs.declared.packet.Packet.{Packet}
use Rattle.gates.specs.Laws.{of_flow}
use Rattle.machine.specs.declared.sending.Sending.{Sending}
use Rattle.port.specs.Port.{flow_at}
use Rattle.egress.specs.Egress.{gate_at}
use Rattle.egress.specs.Histories.{in_turn}
use Rattle.flows.specs.Net.{NetModel}
use Rattle.network.specs.Network.{gate_of, NetState, at_end, Sourced, net_left}

-- their lengths
abbrev pub lengths : List Packet → List ℕ
lengths packets = map (λ (w : Packet). w.length) packets

-- the packet that is being sent
abbrev pub being_sent : Option Sending → List Packet
being_sent None = []
being_sent (Some x) = x.packet ∷ []

-- at a port: being sent, in the queue, behind the regulator
abbrev pub at_port : List FlowModel → NetState → ℕ → ℕ → List Packet
at_port fs s flow p =
    of_flow flow (being_sent (s.port p).machine.sending) ++
    (of_flow flow (slice_index_or (s.port p).machine.queues (flow_at fs flow).class []) ++
    of_flow flow (gate_at (s.port p).gates (gate_of fs p flow)).waits)

-- on a wire
abbrev pub on_wire : NetState → ℕ → ℕ → List Packet
on_wire s flow p = of_flow flow (in_turn (s.wire p))

-- along a road: who came first is farthest
unfoldable pub along : List FlowModel → NetState → ℕ → List ℕ → List Packet
along fs s flow [] = []
along fs s flow (p ∷ ps) = along fs s flow ps ++ (on_wire s flow p ++ at_port fs s flow p)

-- delivered before tick t from the wire of the last port
unfoldable pub delivered : NetModel → List FlowModel → (ℕ → List Sourced) → ℕ → ℕ → ℕ → List Packet
delivered net fs rows flow last zero = []
delivered net fs rows flow last (suc t) =
    delivered net fs rows flow last t ++ of_flow flow (at_end ((net_left net fs rows t).wire last))

-- what came from the source of the flow before tick t
unfoldable pub lengths_in : ℕ → List Sourced → List ℕ
lengths_in flow [] = []
lengths_in flow (x ∷ xs) = cond (x.flow == flow) (x.length ∷ lengths_in flow xs) (lengths_in flow xs)

unfoldable pub from_source : ℕ → (ℕ → List Sourced) → ℕ → List ℕ
from_source flow rows zero = []
from_source flow rows (suc t) = from_source flow rows t ++ lengths_in flow (rows t)
