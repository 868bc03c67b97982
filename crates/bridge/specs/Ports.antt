-- A port and all regulators before it, as lists, and what a tick does there. Assumes nothing.
use Rattle.std.specs.Prelude.{ℕ, Bool, true, false, List, [], ◌∷◌, ◌++◌, Some, None, Option}
use Rattle.lines.specs.declared.packet.Packet.{Packet}
use Rattle.levels.specs.Levels.{LevelModel}
use Rattle.queues.specs.Lines.{left_by}
use Rattle.machine.specs.declared.sending.Sending.{Sending}
use Rattle.machine.specs.declared.leaving.Leaving.{Leaving}
use Rattle.machine.specs.declared.leaving.Leaving.TheVariants.{Gone, Busy, Idle}
use Rattle.machine.specs.Phases.{leaves, goes_on, takes}
use Rattle.regulators.specs.declared.coming.Coming.{Coming}
use Rattle.regulators.specs.Judged.{GateTick, edge_tick, inner_tick}

-- where a regulator stands: at the edge, for a flow; or inside, for a port before and a class, with so many ticks set aside
pub data Stand : Type 0 where
  edge : (flow : ℕ) → Stand
  inside : (from class aside : ℕ) → Stand

abbrev pub is_edge : Stand → Bool
is_edge (edge flow) = true
is_edge (inside from class aside) = false

-- a regulator: who waits there, and who comes in this tick
pub record GateState : Type 0 where
  pub stand : Stand
  pub waits : List Packet
  pub coming : List Coming

-- the regulators in the order in which they are opened, and the port itself
pub record PortState : Type 0 where
  pub gates : List GateState
  pub levels : List LevelModel
  pub queues : List (List Packet)
  pub sending : Option Sending

-- a tick at one regulator, with the levels and the queues as they are
abbrev pub tick_at : ℕ → List ℕ → ℕ → Stand → List Packet → List LevelModel → List (List Packet) → List Coming → GateTick
tick_at room classes tick (edge flow) waits levels queues coming = edge_tick room classes tick waits levels queues coming
tick_at room classes tick (inside from class aside) waits levels queues coming = inner_tick aside room classes tick waits levels queues coming

abbrev pub one_tick : ℕ → List ℕ → ℕ → GateState → List LevelModel → List (List Packet) → GateTick
one_tick room classes tick gate levels queues = tick_at room classes tick gate.stand gate.waits levels queues gate.coming

-- then nobody comes any more
abbrev pub gate_after : GateState → GateTick → GateState
gate_after gate t = record { stand = gate.stand; waits = t.opened.waits; coming = [] }

-- a tick at some regulators: the numbers of those that were refused, and what is left
pub record GatesTick : Type 0 where
  pub refused : List ℕ
  pub gates : List GateState
  pub levels : List LevelModel
  pub queues : List (List Packet)

-- after another regulator
abbrev pub after_gate : GateState → GateTick → GatesTick → GatesTick
after_gate gate t rest =
    record {
      refused = t.refused ++ rest.refused;
      gates = gate_after gate t ∷ rest.gates;
      levels = rest.levels;
      queues = rest.queues;
    }

-- all of them in turn, each with the levels and the queues that the one before left
unfoldable pub gates_tick : ℕ → List ℕ → ℕ → List GateState → List LevelModel → List (List Packet) → GatesTick
gates_tick room classes tick [] levels queues = record { refused = []; gates = []; levels = levels; queues = queues }
gates_tick room classes tick (gate ∷ gates) levels queues =
    let t = one_tick room classes tick gate levels queues in
    after_gate gate t (gates_tick room classes tick gates t.opened.levels t.opened.queues)

-- a tick at the port
pub record PortTick : Type 0 where
  pub refused : List ℕ
  pub port : PortState

-- when the regulators have been opened the port takes, unless it is sending
abbrev pub then_takes : ℕ → Option Sending → GatesTick → PortTick
then_takes tick None t =
    record {
      refused = t.refused;
      port = record { gates = t.gates; levels = t.levels; queues = left_by t.queues; sending = takes tick t.queues };
    }
then_takes tick (Some sending) t =
    record {
      refused = t.refused;
      port = record { gates = t.gates; levels = t.levels; queues = t.queues; sending = Some sending };
    }

abbrev pub port_tick : ℕ → List ℕ → ℕ → PortState → PortTick
port_tick room classes tick s = then_takes tick s.sending (gates_tick room classes tick s.gates s.levels s.queues)

-- the port when what leaves in a tick has left
abbrev pub port_left : ℕ → PortState → PortState
port_left tick s =
    record { gates = s.gates; levels = s.levels; queues = s.queues; sending = goes_on (leaves tick s.sending) }

-- what has left it
abbrev pub gone : Leaving → Option Packet
gone (Gone packet) = Some packet
gone (Busy sending) = None
gone Idle = None
