-- A port with the regulators before it, and what each phase of a tick does there. Assumes nothing.
use Rattle.std.specs.Prelude.{ℕ, ◌+◌, Bool, false, cond, List, [], ◌∷◌, ◌++◌, map, slice_index_or, slice_set}
use Rattle.lines.specs.declared.packet.Packet.{Packet}
use Rattle.levels.specs.Levels.{LevelModel}
use Rattle.gates.specs.Gates.{Opened, may_go, spent_by, queued_by, opened}
use Rattle.machine.specs.declared.leaving.Leaving.{Leaving}
use Rattle.machine.specs.Phases.{leaves}
use Rattle.machine.specs.Joint.{MachineModel}
use Rattle.machine.specs.Runs.{after_open, after_taking, after_tick}

-- a regulator: whether packets enter the net there, and those that wait behind it
pub record GateModel : Type 0 where
  pub at_edge : Bool
  pub waits : List Packet

-- the regulators before a port, in the order in which they are opened, and the port itself
pub record EgressModel : Type 0 where
  pub gates : List GateModel
  pub machine : MachineModel

abbrev pub no_gate : GateModel
no_gate = record { at_edge = false; waits = [] }

abbrev pub gate_at : List GateModel → ℕ → GateModel
gate_at gates k = slice_index_or gates k no_gate

-- a packet that comes and is not refused, and the place of its regulator
pub record Accepted : Type 0 where
  pub gate : ℕ
  pub packet : Packet

-- it is put behind all that wait there
abbrev pub behind : GateModel → Packet → GateModel
behind gate packet = record { at_edge = gate.at_edge; waits = gate.waits ++ packet ∷ [] }

abbrev pub accept : Accepted → List GateModel → List GateModel
accept c gates = slice_set gates c.gate (behind (gate_at gates c.gate) c.packet)

unfoldable pub accept_all : List Accepted → List GateModel → List GateModel
accept_all [] gates = gates
accept_all (c ∷ cs) gates = accept_all cs (accept c gates)

-- packets for each regulator in turn, from regulator k on
unfoldable pub numbered : ℕ → List (List Packet) → List Accepted
numbered k [] = []
numbered k (row ∷ rows) = map (λ w. record { gate = k; packet = w }) row ++ numbered (k + 1) rows

-- a row of packets is put behind each regulator
unfoldable pub put_rows : List (List Packet) → List GateModel → List GateModel
put_rows [] gates = gates
put_rows (row ∷ rows) [] = []
put_rows (row ∷ rows) (gate ∷ gates) = record { at_edge = gate.at_edge; waits = gate.waits ++ row } ∷ put_rows rows gates

-- a regulator is opened with the levels and the queues as they are
abbrev pub open_one : ℕ → List ℕ → GateModel → MachineModel → Opened
open_one room classes gate s = opened room gate.at_edge classes s.tick gate.waits s.levels s.queues

abbrev pub still_waits : GateModel → Opened → GateModel
still_waits gate o = record { at_edge = gate.at_edge; waits = o.waits }

abbrev pub with_gate : GateModel → EgressModel → EgressModel
with_gate gate e = record { gates = gate ∷ e.gates; machine = e.machine }

-- all of them in turn, each with the levels and the queues that the one before left
unfoldable pub open_all : ℕ → List ℕ → List GateModel → MachineModel → EgressModel
open_all room classes [] s = record { gates = []; machine = s }
open_all room classes (gate ∷ gates) s =
    with_gate (still_waits gate (open_one room classes gate s)) (open_all room classes gates (after_open s (open_one room classes gate s)))

-- those who pass when a regulator is opened
unfoldable pub passers : ℕ → Bool → List ℕ → ℕ → List Packet → List LevelModel → List (List Packet) → List Packet
passers room at_edge classes tick [] levels queues = []
passers room at_edge classes tick (packet ∷ packets) levels queues =
    cond (may_go room classes tick packet levels queues)
    (packet ∷ passers room at_edge classes tick packets (spent_by tick packet levels) (queued_by at_edge classes tick packet queues)) []

abbrev pub passers_of : ℕ → List ℕ → GateModel → MachineModel → List Packet
passers_of room classes gate s = passers room gate.at_edge classes s.tick gate.waits s.levels s.queues

-- and when all are: a list for each regulator
unfoldable pub all_passers : ℕ → List ℕ → List GateModel → MachineModel → List (List Packet)
all_passers room classes [] s = []
all_passers room classes (gate ∷ gates) s =
    passers_of room classes gate s ∷ all_passers room classes gates (after_open s (open_one room classes gate s))

-- the four phases of a tick; with the first of them the tick begins
abbrev pub leave_phase : EgressModel → EgressModel
leave_phase e = record { gates = e.gates; machine = after_tick e.machine }

abbrev pub come_phase : List Accepted → EgressModel → EgressModel
come_phase cs e = record { gates = accept_all cs e.gates; machine = e.machine }

abbrev pub pass_phase : ℕ → List ℕ → EgressModel → EgressModel
pass_phase room classes e = open_all room classes e.gates e.machine

abbrev pub take_phase : EgressModel → EgressModel
take_phase e = record { gates = e.gates; machine = after_taking e.machine e.machine.sending }

-- the other three
abbrev pub then_phases : ℕ → List ℕ → List Accepted → EgressModel → EgressModel
then_phases room classes cs e = take_phase (pass_phase room classes (come_phase cs e))

-- what leaves in a tick, and the state at its end
pub record Ticked : Type 0 where
  pub left : Leaving
  pub egress : EgressModel

-- the tick after the one whose end this is
abbrev pub whole_tick : ℕ → List ℕ → List Accepted → EgressModel → Ticked
whole_tick room classes cs e =
    record {
      left = leaves (e.machine.tick + 1) e.machine.sending;
      egress = then_phases room classes cs (leave_phase e);
    }

-- the state at the end of a row of them
unfoldable pub after_ticks : ℕ → List ℕ → List (List Accepted) → EgressModel → EgressModel
after_ticks room classes [] e = e
after_ticks room classes (cs ∷ css) e = after_ticks room classes css (whole_tick room classes cs e).egress
