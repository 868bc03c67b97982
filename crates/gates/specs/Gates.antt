-- Gates: what a regulator lets pass into the queues of a port at a tick. Assumes nothing.
use Rattle.std.specs.Prelude.{ℕ, Bool, cond, ◌&&◌, List, [], ◌∷◌, length, nat_le, nat_lt, slice_index, slice_index_or, slice_set}
use Rattle.lines.specs.declared.packet.Packet.{Packet}
use Rattle.levels.specs.Levels.{LevelModel, at_tick, may_pass, spent}
use Rattle.queues.specs.Lines.{put_in, packets_in}

-- what still waits, the levels, and the queues
pub record Opened : Type 0 where
  pub waits : List Packet
  pub levels : List LevelModel
  pub queues : List (List Packet)

-- a packet that passes the edge is marked with the tick; inside the net it keeps its mark
abbrev pub marked : Bool → ℕ → Packet → Packet
marked at_edge tick packet =
    record { flow = packet.flow; length = packet.length; edge = cond at_edge tick packet.edge }

-- the level of its flow, and its class
abbrev pub no_level : LevelModel
no_level = record { burst = 0; rate = 0; level = 0; last = 0 }

abbrev pub level_of : List LevelModel → Packet → LevelModel
level_of levels packet = slice_index_or levels packet.flow no_level

abbrev pub class_of : List ℕ → Packet → ℕ
class_of classes packet = slice_index classes packet.flow

-- its flow is known
abbrev pub known : List ℕ → Packet → List LevelModel → Bool
known classes packet levels = nat_lt packet.flow (length levels) && nat_lt packet.flow (length classes)

-- there are eight classes, and room is the number of cells
abbrev pub has_cell : ℕ → ℕ → List (List Packet) → Bool
has_cell room class queues = nat_le class 7 && nat_lt (packets_in queues) room

-- it may pass: its flow is known, its level at the tick is enough, and there is a cell for it
abbrev pub may_go : ℕ → List ℕ → ℕ → Packet → List LevelModel → List (List Packet) → Bool
may_go room classes tick packet levels queues =
    known classes packet levels &&
    (may_pass (level_of levels packet) tick packet.length && has_cell room (class_of classes packet) queues)

-- when it passes, its level is spent, and it goes to the end of the queue of its class
abbrev pub spent_by : ℕ → Packet → List LevelModel → List LevelModel
spent_by tick packet levels = slice_set levels packet.flow (spent (at_tick (level_of levels packet) tick) packet.length)

abbrev pub queued_by : Bool → List ℕ → ℕ → Packet → List (List Packet) → List (List Packet)
queued_by at_edge classes tick packet queues = put_in queues (class_of classes packet) (marked at_edge tick packet)

-- the first passes if it may, and so on with the rest; while it may not, nothing behind it passes
unfoldable pub opened : ℕ → Bool → List ℕ → ℕ → List Packet → List LevelModel → List (List Packet) → Opened
opened room at_edge classes tick [] levels queues = record { waits = []; levels = levels; queues = queues }
opened room at_edge classes tick (packet ∷ packets) levels queues =
    cond (may_go room classes tick packet levels queues)
    (opened room at_edge classes tick packets (spent_by tick packet levels) (queued_by at_edge classes tick packet queues))
    (record { waits = packet ∷ packets; levels = levels; queues = queues })
