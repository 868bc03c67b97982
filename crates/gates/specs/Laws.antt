-- Laws of gates. Assumes nothing.
use Rattle.std.specs.Prelude.{◌≡◌, ℕ, ◌<◌, Bool, true, false, cond, List, [], ◌∷◌, ◌++◌, map, length, replicate, Some, ◌==◌, slice_index_or}
use Rattle.lines.specs.declared.packet.Packet.{Packet}
use Rattle.lines.specs.Lines.{head_of}
use Rattle.levels.specs.Levels.{LevelModel, full_level}
use Rattle.levels.specs.Regular.{Pass, NotBefore, InOrder, Regular}
use Rattle.levels.specs.Laws.{level_after}
use Rattle.gates.specs.Gates.{Opened, marked, no_level, class_of, may_go, spent_by, queued_by, opened}

-- packets pass one after the other, and each of them may
unfoldable pub AllMay : ℕ → Bool → List ℕ → ℕ → List Packet → List LevelModel → List (List Packet) → Type 0
AllMay room at_edge classes tick [] levels queues = Unit {0}
AllMay room at_edge classes tick (packet ∷ packets) levels queues =
    (may_go room classes tick packet levels queues ≡ true) ×
    AllMay room at_edge classes tick packets (spent_by tick packet levels) (queued_by at_edge classes tick packet queues)

-- levels and queues after they passed
unfoldable pub spent_by_all : ℕ → List Packet → List LevelModel → List LevelModel
spent_by_all tick [] levels = levels
spent_by_all tick (packet ∷ packets) levels = spent_by_all tick packets (spent_by tick packet levels)

unfoldable pub queued_by_all : Bool → List ℕ → ℕ → List Packet → List (List Packet) → List (List Packet)
queued_by_all at_edge classes tick [] queues = queues
queued_by_all at_edge classes tick (packet ∷ packets) queues =
    queued_by_all at_edge classes tick packets (queued_by at_edge classes tick packet queues)

-- what a regulator does at a tick
pub record Regulates (room : ℕ) (at_edge : Bool) (classes : List ℕ) (tick : ℕ) (waits : List Packet) (levels : List LevelModel) (queues : List (List Packet)) (o : Opened) : Type 0 where
  -- those who passed, and then those who still wait, are those who waited: nobody is lost, and nobody overtakes
  pub passed : List Packet
  pub order : passed ++ o.waits ≡ waits
  -- nobody passed who might not
  pub allowed : AllMay room at_edge classes tick passed levels queues
  pub spent : o.levels ≡ spent_by_all tick passed levels
  pub queued : o.queues ≡ queued_by_all at_edge classes tick passed queues
  -- the first who still waits may not pass
  pub held : (packet : Packet) → head_of o.waits ≡ Some packet → may_go room classes tick packet o.levels o.queues ≡ false

-- those of a class, in order
unfoldable pub of_class : List ℕ → ℕ → List Packet → List Packet
of_class classes class [] = []
of_class classes class (packet ∷ packets) =
    cond (class_of classes packet == class) (packet ∷ of_class classes class packets) (of_class classes class packets)

-- those of a flow, in order
unfoldable pub of_flow : ℕ → List Packet → List Packet
of_flow flow [] = []
of_flow flow (packet ∷ packets) = cond (packet.flow == flow) (packet ∷ of_flow flow packets) (of_flow flow packets)

-- a history, the newest pass first, with packets that pass at a tick
unfoldable pub passing : ℕ → List Packet → List Pass → List Pass
passing tick [] history = history
passing tick (packet ∷ packets) history = passing tick packets (record { at = tick; len = packet.length } ∷ history)

-- what passed of a flow up to a tick is regular, and its level is the one after it
pub record RegularFlow (levels : List LevelModel) (flow burst rate tick : ℕ) (history : List Pass) : Type 0 where
  pub within : flow < length levels
  pub level : slice_index_or levels flow no_level ≡ level_after burst rate history
  pub order : InOrder history
  pub last : NotBefore history tick
  pub regular : Regular burst rate history

-- Worked, at tick 5 and at the edge: the first two pass, the third has no level left, and the fourth, which has, waits
-- behind it.
abbrev pub packet_of : ℕ → ℕ → ℕ → Packet
packet_of flow length edge = record { flow = flow; length = length; edge = edge }

abbrev pub opened_at_five : Opened
opened_at_five =
    opened 9 true (0 ∷ 3 ∷ []) 5 (packet_of 1 1 0 ∷ packet_of 0 2 0 ∷ packet_of 1 1 0 ∷ packet_of 0 1 0 ∷ [])
    (full_level 3 1000 ∷ full_level 1 1000 ∷ []) (replicate 8 [])

pub record Worked : Type 0 where
  pub waits : opened_at_five.waits ≡ packet_of 1 1 0 ∷ packet_of 0 1 0 ∷ []
  pub levels : map (λ l. l.level) opened_at_five.levels ≡ 1000000 ∷ 0 ∷ []
  pub queues : opened_at_five.queues ≡ (packet_of 0 2 5 ∷ []) ∷ [] ∷ [] ∷ (packet_of 1 1 5 ∷ []) ∷ [] ∷ [] ∷ [] ∷ [] ∷ []

pub record GateLaws : Type 0 where
  -- an opened gate has done so, and nothing else is what a regulator does
  pub regulates : (room : ℕ) (at_edge : Bool) (classes : List ℕ) (tick : ℕ) (waits : List Packet) (levels : List LevelModel) (queues : List (List Packet)) →
      Regulates room at_edge classes tick waits levels queues (opened room at_edge classes tick waits levels queues)
  pub only : (room : ℕ) (at_edge : Bool) (classes : List ℕ) (tick : ℕ) (waits : List Packet) (levels : List LevelModel) (queues : List (List Packet)) (o : Opened) →
      Regulates room at_edge classes tick waits levels queues o → o ≡ opened room at_edge classes tick waits levels queues
  -- opened again at the same tick, it lets nobody pass
  pub again : (room : ℕ) (at_edge : Bool) (classes : List ℕ) (tick : ℕ) (waits : List Packet) (levels : List LevelModel) (queues : List (List Packet)) (o : Opened) →
      o ≡ opened room at_edge classes tick waits levels queues → opened room at_edge classes tick o.waits o.levels o.queues ≡ o
  -- in each queue those of its class who passed stand behind those who stood there, as they came
  pub behind : (at_edge : Bool) (classes : List ℕ) (tick : ℕ) (packets : List Packet) (queues : List (List Packet)) (class : ℕ) → class < length queues →
      slice_index_or (queued_by_all at_edge classes tick packets queues) class [] ≡ slice_index_or queues class [] ++ map (marked at_edge tick) (of_class classes class packets)
  -- what passes of a flow is regular, by its burst and rate, if it was before
  pub regular : (room : ℕ) (at_edge : Bool) (classes : List ℕ) (tick : ℕ) (waits : List Packet) (levels : List LevelModel) (queues : List (List Packet)) (o : Opened)
      (does : Regulates room at_edge classes tick waits levels queues o) (flow burst rate : ℕ) (history : List Pass) →
      RegularFlow levels flow burst rate tick history → RegularFlow o.levels flow burst rate tick (passing tick (of_flow flow does.passed) history)
  pub worked : Worked
