-- A whole net, tick by tick. Assumes nothing.
use Rattle.std.specs.Prelude.{ℕ, zero, suc, ◌+◌, ◌*◌, Bool, true, false, cond, ◌==◌, List, [], ◌∷◌, ◌++◌, map, length, replicate}
use Rattle.flows.specs.Net.{NetModel, port_at}
use Rattle.flows.specs.Flow.{FlowModel}
use Rattle.promises.specs.Promises.{port_need}
use Rattle.lines.specs.declared.packet.Packet.{Packet}
use Rattle.port.specs.Port.{flow_at}
use Rattle.machine.specs.declared.leaving.Leaving.{Leaving}
use Rattle.machine.specs.declared.leaving.Leaving.TheVariants.{Gone, Busy, Idle}
use Rattle.machine.specs.Phases.{leaves}
use Rattle.egress.specs.Egress.{EgressModel, Accepted, leave_phase, come_phase, pass_phase, take_phase}
use Rattle.egress.specs.Plays.{Setup, at_start}
use Rattle.egress.specs.Histories.{onward}

-- a road begins at port p
unfoldable pub starts : ℕ → List ℕ → Bool
starts p [] = false
starts p (q ∷ qs) = q == p

-- The regulators before a port: at the edge one for each flow, in their order, then one for each port before, in rising number, and
-- class. Those that no flow needs stay empty.
abbrev pub inner_gate : List FlowModel → ℕ → ℕ → ℕ
inner_gate fs p class = length fs + (8 * p + class)

abbrev pub edges_of : NetModel → List FlowModel → List Bool
edges_of net fs = replicate (length fs) true ++ replicate (8 * length net.ports) false

-- the port from which a road comes to port q
unfoldable pub port_before : ℕ → List ℕ → ℕ
port_before q [] = 0
port_before q (x ∷ []) = 0
port_before q (x ∷ y ∷ ys) = cond (y == q) x (port_before q (y ∷ ys))

-- the regulator before port q to which packets of a flow come
abbrev pub gate_of : List FlowModel → ℕ → ℕ → ℕ
gate_of fs q flow =
    cond (starts q (flow_at fs flow).road) flow
    (inner_gate fs (port_before q (flow_at fs flow).road) (flow_at fs flow).class)

-- port p with the memory that it needs
abbrev pub setup_of : NetModel → List FlowModel → ℕ → Setup
setup_of net fs p =
    record {
      port = p;
      flows = fs;
      enters = λ flow. starts p (flow_at fs flow).road;
      room = port_need p fs;
      classes = map (λ (f : FlowModel). f.class) fs;
      edges = edges_of net fs;
    }

-- of each port its state; of its wire what is at the end in this tick, in the next, and so on
pub record NetState : Type 0 where
  pub port : ℕ → EgressModel
  pub wire : ℕ → List (List Packet)

-- nothing has come
abbrev pub empty_net : NetModel → List FlowModel → NetState
empty_net net fs =
    record { port = λ p. at_start (setup_of net fs p); wire = λ p. replicate (suc (port_at net p).wire) [] }

-- who is gone
unfoldable pub gone : Leaving → List Packet
gone (Gone packet) = packet ∷ []
gone (Busy x) = []
gone Idle = []

-- what leaves port p in the tick after
abbrev pub leaving : NetState → ℕ → List Packet
leaving s p = gone (leaves ((s.port p).machine.tick + 1) (s.port p).machine.sending)

-- Leave: last bits leave and go on the wires
abbrev pub leave_all : NetState → NetState
leave_all s = record { port = λ p. leave_phase (s.port p); wire = λ p. s.wire p ++ leaving s p ∷ [] }

-- what is at the end of a wire in this tick, and what is on it afterwards
unfoldable pub at_end : List (List Packet) → List Packet
at_end [] = []
at_end (row ∷ rows) = row

unfoldable pub still_on : List (List Packet) → List (List Packet)
still_on [] = []
still_on (row ∷ rows) = rows

-- those that go from port p to port q are put behind the regulators of port p and their classes
abbrev pub behind_inner : List FlowModel → ℕ → Packet → Accepted
behind_inner fs p w = record { gate = inner_gate fs p (flow_at fs w.flow).class; packet = w }

abbrev pub from_wire : List FlowModel → ℕ → ℕ → List Packet → List Accepted
from_wire fs p q packets = map (behind_inner fs p) (onward fs p q packets)

-- from the wires of the first n ports
unfoldable pub from_wires : List FlowModel → ℕ → NetState → ℕ → List Accepted
from_wires fs q s zero = []
from_wires fs q s (suc n) = from_wires fs q s n ++ from_wire fs n q (at_end (s.wire n))

-- a packet that comes from the source of a flow and is not refused
pub record Sourced : Type 0 where
  pub flow : ℕ
  pub length : ℕ

-- those whose roads begin at port q are put behind the regulators of their flows
abbrev pub behind_edge : Sourced → Accepted
behind_edge x = record { gate = x.flow; packet = record { flow = x.flow; length = x.length; edge = 0 } }

unfoldable pub from_sources : List FlowModel → ℕ → List Sourced → List Accepted
from_sources fs q [] = []
from_sources fs q (x ∷ xs) =
    cond (starts q (flow_at fs x.flow).road) (behind_edge x ∷ from_sources fs q xs) (from_sources fs q xs)

abbrev pub coming : NetModel → List FlowModel → List Sourced → NetState → ℕ → List Accepted
coming net fs row s q = from_wires fs q s (length net.ports) ++ from_sources fs q row

-- Come: what is at the end of a wire, then what comes from sources; whose road ends is delivered
abbrev pub come_all : NetModel → List FlowModel → List Sourced → NetState → NetState
come_all net fs row s =
    record { port = λ q. come_phase (coming net fs row s q) (s.port q); wire = λ p. still_on (s.wire p) }

-- Pass, and Take
abbrev pub pass_all : NetModel → List FlowModel → NetState → NetState
pass_all net fs s =
    record { port = λ p. pass_phase (setup_of net fs p).room (setup_of net fs p).classes (s.port p); wire = s.wire }

abbrev pub take_all : NetState → NetState
take_all s = record { port = λ p. take_phase (s.port p); wire = s.wire }

abbrev pub then_all : NetModel → List FlowModel → List Sourced → NetState → NetState
then_all net fs row s = take_all (pass_all net fs (come_all net fs row s))

-- the net in tick t when what leaves has left, where each tick has a row from sources; and at the end of the tick
unfoldable pub net_left : NetModel → List FlowModel → (ℕ → List Sourced) → ℕ → NetState
net_left net fs rows zero = empty_net net fs
net_left net fs rows (suc t) = leave_all (then_all net fs (rows t) (net_left net fs rows t))

abbrev pub net_run : NetModel → List FlowModel → (ℕ → List Sourced) → ℕ → NetState
net_run net fs rows t = then_all net fs (rows t) (net_left net fs rows t)
