-- The pipe from one port to the next in one class: what has passed at the first and not yet at the second. Assumes nothing.
use Rattle.std.specs.Prelude.{◌≡◌, ℕ, ◌+◌, ◌*◌, ◌<◌, ◌≤◌, List, [], ◌∷◌, ◌++◌, map, length, Some, None, Option, slice_index_or, slice_set}
use Rattle.std.specs.List.{AllByRecursion as Each}
use Rattle.flows.specs.Flow.{FlowModel}
use Rattle.promises.specs.Promises.{den}
use Rattle.port.specs.Port.{Packet as Entry, Level, full, flow_at, deficit_at}

-- A packet in the pipe: the place of its flow in the list of flows, its length, the tick of its pass at the first port, what its flow's burst
-- lacked there right after, in millionths of a tick, and the tick at which it came to the regulator before the second port, if it has.
pub record Packet : Type 0 where
  pub flow : ℕ
  pub len : ℕ
  pub sent : ℕ
  pub lack : ℕ
  pub came : Option ℕ

-- a packet that has passed at the second port, the tick at which it had come there, and the tick of its pass
pub record Passed : Type 0 where
  pub packet : Packet
  pub came : ℕ
  pub at : ℕ

-- The state of a pipe for a list of flows: the tick, the packets in the pipe in the order of their passes at the first port, a level for each
-- flow at the first port and at the next, and what has passed at the next, the latest first.
pub record PipeModel : Type 0 where
  pub now : ℕ
  pub pipe : List Packet
  pub levels : List Level
  pub next : List Level
  pub passed : List Passed

-- the state in which nothing has passed
abbrev pub empty : List FlowModel → PipeModel
empty fs = record { now = 0; pipe = []; levels = map (λ _. full) fs; next = map (λ _. full) fs; passed = [] }

-- what a flow's burst lacks with so many ticks more, by its level before
abbrev pub lack_with : List FlowModel → List Level → ℕ → ℕ → ℕ → ℕ
lack_with fs ls now k len = deficit_at (flow_at fs k) (slice_index_or ls k full) now + den * len

-- the level of a flow right after that
abbrev pub level_with : List FlowModel → List Level → ℕ → ℕ → ℕ → Level
level_with fs ls now k len = record { deficit = lack_with fs ls now k len; last = now }

-- A packet of flow k may pass at the first port: the flow's ticks stay regular with it.
pub record MayEnter (fs : List FlowModel) (s : PipeModel) (k len : ℕ) : Type 0 where
  pub known : k < length fs
  pub some : 1 ≤ len
  pub regular : lack_with fs s.levels s.now k len ≤ den * (flow_at fs k).burst

-- the packet as it passes there
abbrev pub entrant : List FlowModel → PipeModel → ℕ → ℕ → Packet
entrant fs s k len = record { flow = k; len = len; sent = s.now; lack = lack_with fs s.levels s.now k len; came = None }

-- it goes to the end of the pipe
abbrev pub entered : List FlowModel → PipeModel → ℕ → ℕ → PipeModel
entered fs s k len =
    record {
      now = s.now;
      pipe = s.pipe ++ entrant fs s k len ∷ [];
      levels = slice_set s.levels k (level_with fs s.levels s.now k len);
      next = s.next;
      passed = s.passed;
    }

-- a packet has come
abbrev pub HasCome : Packet → Type 0
HasCome w = (t : ℕ) × (w.came ≡ Some t)

-- The first packet that has not come may come: none overtakes another on the way.
pub record MayCome (s : PipeModel) (front : List Packet) (w : Packet) (back : List Packet) : Type 0 where
  pub stands : s.pipe ≡ front ++ w ∷ back
  pub first : Each HasCome front
  pub away : w.came ≡ None

-- it waits in the regulator from now on
abbrev pub arrived : ℕ → Packet → Packet
arrived t w = record { flow = w.flow; len = w.len; sent = w.sent; lack = w.lack; came = Some t }

abbrev pub met : PipeModel → List Packet → Packet → List Packet → PipeModel
met s front w back =
    record { now = s.now; pipe = front ++ arrived s.now w ∷ back; levels = s.levels; next = s.next; passed = s.passed }

-- The first of the pipe may pass at the next port if it has come and its flow's ticks stay regular there with it.
pub record MayPass (fs : List FlowModel) (s : PipeModel) (w : Packet) (rest : List Packet) (t : ℕ) : Type 0 where
  pub first : s.pipe ≡ w ∷ rest
  pub come : w.came ≡ Some t
  pub regular : lack_with fs s.next s.now w.flow w.len ≤ den * (flow_at fs w.flow).burst

-- it leaves the pipe
abbrev pub left : List FlowModel → PipeModel → Packet → List Packet → ℕ → PipeModel
left fs s w rest t =
    record {
      now = s.now;
      pipe = rest;
      levels = s.levels;
      next = slice_set s.next w.flow (level_with fs s.next s.now w.flow w.len);
      passed = record { packet = w; came = t; at = s.now } ∷ s.passed;
    }

-- A tick may end where the first of the pipe may not pass: a regulator looks at its first only, and lets it pass as soon as it may.
abbrev pub MayTick : List FlowModel → PipeModel → Type 0
MayTick fs s = (w : Packet) (rest : List Packet) (t : ℕ) → MayPass fs s w rest t → ⊥

-- the next tick begins
abbrev pub ticked : PipeModel → PipeModel
ticked s = record { now = s.now + 1; pipe = s.pipe; levels = s.levels; next = s.next; passed = s.passed }

-- one step of a pipe
pub data Step (fs : List FlowModel) (s t : PipeModel) : Type 0 where
  enters : (k len : ℕ) → MayEnter fs s k len → t ≡ entered fs s k len → Step fs s t
  comes : (front : List Packet) (w : Packet) (back : List Packet) → MayCome s front w back → t ≡ met s front w back → Step fs s t
  passes : (w : Packet) (rest : List Packet) (came : ℕ) → MayPass fs s w rest came → t ≡ left fs s w rest came → Step fs s t
  ticks : MayTick fs s → t ≡ ticked s → Step fs s t

-- the states that a pipe comes to by steps in any order
pub data Run (fs : List FlowModel) : PipeModel → Type 0 where
  begins : Run fs (empty fs)
  goes : {s t : PipeModel} → Run fs s → Step fs s t → Run fs t

-- a packet as it passed at the first port
abbrev pub entry : Packet → Entry
entry w = record { flow = w.flow; len = w.len; into = w.sent }

-- those that have passed at the next port, in the order in which they did
unfoldable pub through : List Passed → List Entry
through [] = []
through (g ∷ gs) = through gs ++ entry g.packet ∷ []

-- those, and then those in the pipe
abbrev pub line_of : PipeModel → List Entry
line_of s = through s.passed ++ map entry s.pipe

-- those that passed at the first port in a run, in the order in which they did
unfoldable pub enters_of : (fs : List FlowModel) {s : PipeModel} → Run fs s → List Entry
enters_of fs begins = []
enters_of fs (goes {s = s} run (enters k len may after)) = enters_of fs run ++ record { flow = k; len = len; into = s.now } ∷ []
enters_of fs (goes run (comes front w back may after)) = enters_of fs run
enters_of fs (goes run (passes w rest came may after)) = enters_of fs run
enters_of fs (goes run (ticks may after)) = enters_of fs run
