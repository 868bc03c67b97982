-- The state of the code at a port, as lists, and what the code has done there in a tick. Assumes nothing.
use Rattle.std.specs.Prelude.{◌≡◌, ℕ, List, ◌++◌, map, length, None, Vec}
use Rattle.std.specs.Global.{Global}
use Rattle.lines.specs.declared.packet.Packet.{Packet}
use Rattle.lines.specs.Lines.{waits}
use Rattle.lines.specs.Ticks.{ticks_of}
use Rattle.levels.specs.declared.level.Level.{Level}
use Rattle.levels.specs.Models.{level_model}
use Rattle.queues.specs.declared.cell.Cell.{Cell}
use Rattle.queues.specs.declared.queues_of.Queues.{Queues}
use Rattle.queues.specs.Held.{Holds}
use Rattle.bridge.specs.declared.regulated.Edge.{Edge}
use Rattle.bridge.specs.declared.regulated.Inside.{Inside}
use Rattle.bridge.specs.declared.egress_port.EgressPort.{EgressPort}
use Rattle.bridge.specs.Ports.{edge, inside, GateState, PortState, GatesTick, PortTick}

abbrev pub edge_state : Edge → GateState
edge_state e =
    record { stand = edge e.flow; waits = waits e.gate.cells.items e.gate.line; coming = e.gate.coming.items }

abbrev pub inside_state : Inside → GateState
inside_state i =
    record {
      stand = inside i.from i.class i.gate.aside;
      waits = waits i.gate.cells.items i.gate.counted.line;
      coming = i.gate.coming.items;
    }

-- how many come to each
abbrev pub edge_coming : Edge → ℕ
edge_coming e = length e.gate.coming.items

abbrev pub inside_coming : Inside → ℕ
inside_coming i = length i.gate.coming.items

-- the ticks that wait inside
abbrev pub inside_ticks : Inside → ℕ
inside_ticks i = ticks_of (waits i.gate.cells.items i.gate.counted.line)

-- first those at the edge, then those inside
abbrev pub gates_of : EgressPort → List GateState
gates_of p = map edge_state p.edges.items ++ map inside_state p.inside.items

-- a port that is not sending
abbrev pub port_with : Vec Edge Global → Vec Inside Global → Vec Level Global → Queues → EgressPort
port_with edges inner levels queues =
    record { edges = edges; inside = inner; levels = levels; queues = queues; sending = None }

-- the state of a port whose queues hold these lines
abbrev pub state_of : EgressPort → List (List Packet) → PortState
state_of p lines =
    record { gates = gates_of p; levels = map level_model p.levels.items; queues = lines; sending = p.sending }

-- with the numbers of others that were refused before
abbrev pub gates_behind : List ℕ → GatesTick → GatesTick
gates_behind numbers t = record { refused = numbers ++ t.refused; gates = t.gates; levels = t.levels; queues = t.queues }

abbrev pub behind : List ℕ → PortTick → PortTick
behind numbers t = record { refused = numbers ++ t.refused; port = t.port }

-- regulators, levels and queues are those after their tick, and these numbers those of all that were refused
pub record GatesTicked (gates : List GateState) (levels : List Level) (queues : Queues) (memory : List Cell) (refused : List ℕ) (t : GatesTick) : Type 0 where
  pub gates_are : gates ≡ t.gates
  pub levels_are : map level_model levels ≡ t.levels
  pub held : Holds queues memory t.queues
  pub numbers : refused ≡ t.refused

-- and so is the port
pub record PortTicked (port : EgressPort) (memory : List Cell) (refused : List ℕ) (t : PortTick) : Type 0 where
  pub held : Holds port.queues memory t.port.queues
  pub state : state_of port t.port.queues ≡ t.port
  pub numbers : refused ≡ t.refused
