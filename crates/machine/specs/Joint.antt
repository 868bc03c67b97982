-- The state of the code at one port, as lists, and the state of a port that it shows. Assumes nothing.
use Rattle.std.specs.Prelude.{◌≡◌, ℕ, ◌+◌, ◌*◌, ◌<◌, ◌≤◌, Bool, cond, List, map, length, Some, None, Option, slice_index_or}
use Rattle.flows.specs.Flow.{FlowModel}
use Rattle.promises.specs.Promises.{den}
use Rattle.lines.specs.declared.packet.Packet.{Packet}
use Rattle.levels.specs.Levels.{LevelModel}
use Rattle.gates.specs.Gates.{no_level}
use Rattle.port.specs.Port as port
use Rattle.port.specs.Port.{PortModel, flow_at, full}
use Rattle.machine.specs.declared.sending.Sending.{Sending}

-- what both know of a packet: its flow, its length and, if its flow enters the net at this port, the tick of its pass
pub record Bare : Type 0 where
  pub flow : ℕ
  pub len : ℕ
  pub into : ℕ

abbrev pub bare : (ℕ → Bool) → Packet → Bare
bare enters packet = record { flow = packet.flow; len = packet.length; into = cond (enters packet.flow) packet.edge 0 }

abbrev pub bare_of : (ℕ → Bool) → port.Packet → Bare
bare_of enters packet = record { flow = packet.flow; len = packet.len; into = cond (enters packet.flow) packet.into 0 }

-- of a packet being sent, also the tick at which its last bit leaves
pub record BareSending : Type 0 where
  pub packet : Bare
  pub until : ℕ

abbrev pub sent : (ℕ → Bool) → Option Sending → Option BareSending
sent enters None = None
sent enters (Some x) = Some (record { packet = bare enters x.packet; until = x.until })

abbrev pub sent_of : (ℕ → Bool) → Option port.Sending → Option BareSending
sent_of enters None = None
sent_of enters (Some x) = Some (record { packet = bare_of enters x.packet; until = x.until })

-- the levels, the queues, what is being sent, and the tick
pub record MachineModel : Type 0 where
  pub levels : List LevelModel
  pub queues : List (List Packet)
  pub sending : Option Sending
  pub tick : ℕ

-- what the level of the code has and what the burst of the port lacks are together the burst; t is not before the last tick
pub record ShowsLevel (f : FlowModel) (t : ℕ) (l : LevelModel) (d : port.Level) : Type 0 where
  pub burst : l.burst ≡ f.burst
  pub rate : l.rate ≡ f.rate
  pub last : l.last ≡ d.last
  pub past : l.last ≤ t
  pub level : l.level + d.deficit ≡ den * f.burst

-- s shows the state m of a port with these flows, some of which enter the net there
pub record Shows (enters : ℕ → Bool) (fs : List FlowModel) (s : MachineModel) (m : PortModel) : Type 0 where
  pub tick : s.tick ≡ m.now
  pub queues : map (map (bare enters)) s.queues ≡ map (map (bare_of enters)) m.queues
  pub sending : sent enters s.sending ≡ sent_of enters m.sending
  pub many : length s.levels ≡ length fs
  pub each : length m.levels ≡ length fs
  pub levels : (k : ℕ) → k < length fs → ShowsLevel (flow_at fs k) s.tick (slice_index_or s.levels k no_level) (slice_index_or m.levels k full)
