-- How the lent memory holds the queues. Assumes nothing.
use Rattle.std.specs.Prelude.{◌≡◌, ℕ, zero, suc, ◌+◌, ◌<◌, ◌≤◌, min, cond, List, [], ◌∷◌, map, length, Some, None, Option, ◌==◌, nat_lt, slice_index_or}
use Rattle.std.specs.List.{AllByRecursion as Each}
use Rattle.lines.specs.declared.packet.Packet.{Packet}
use Rattle.queues.specs.declared.cell.Cell.{Cell}
use Rattle.queues.specs.declared.queues_of.Queue.{Queue}
use Rattle.queues.specs.declared.queues_of.Queues.{Queues}
use Rattle.queues.specs.Lines.{ticks_of, sum_to}

abbrev pub no_cell : Cell
no_cell = record { packet = record { flow = 0; length = 0; edge = 0 }; next = 0 }

abbrev pub packet_at : List Cell → ℕ → Packet
packet_at cells i = (slice_index_or cells i no_cell).packet

abbrev pub next_at : List Cell → ℕ → ℕ
next_at cells i = (slice_index_or cells i no_cell).next

-- the first k places from i on, each the next of the one before
unfoldable pub places : List Cell → ℕ → ℕ → List ℕ
places cells i zero = []
places cells i (suc k) = i ∷ places cells (next_at cells i) k

-- the packets there
abbrev pub chain : List Cell → ℕ → ℕ → List Packet
chain cells i k = map (packet_at cells) (places cells i k)

-- the last of a list; d where it is empty
unfoldable pub last_of : ℕ → List ℕ → ℕ
last_of d [] = d
last_of d (x ∷ xs) = last_of x xs

-- how often x stands in a list
unfoldable pub occurs : ℕ → List ℕ → ℕ
occurs x [] = 0
occurs x (y ∷ ys) = cond (x == y) 1 0 + occurs x ys

abbrev pub no_queue : Queue
no_queue = record { first = 0; last = 0; count = 0; ticks = 0 }

-- the queue of class c
abbrev pub queue_of : Queues → ℕ → Queue
queue_of q c = slice_index_or q.classes c no_queue

-- the places of the queue of class c, and of the free cells
abbrev pub places_of : Queues → List Cell → ℕ → List ℕ
places_of q cells c = places cells (queue_of q c).first (queue_of q c).count

abbrev pub free_places : Queues → List Cell → List ℕ
free_places q cells = places cells q.free q.free_count

-- How many cells there are. Those past the first 2^32 - 1 have no place that a link can name, and are not used.
abbrev pub size : List Cell → ℕ
size cells = min (length cells) 4294967295

-- how many packets wait
abbrev pub waits : Queues → ℕ
waits q = sum_to 8 (λ c. (queue_of q c).count)

-- class c is the lowest that has a packet
pub record IsLowest (q : Queues) (c : ℕ) : Type 0 where
  pub within : c < 8
  pub below : (d : ℕ) → d < c → (queue_of q d).count ≡ 0
  pub found : 0 < (queue_of q c).count

-- the lowest class that has a packet; None where none has
abbrev pub Lowest : Queues → Option ℕ → Type 0
Lowest q None = (c : ℕ) → c < 8 → (queue_of q c).count ≡ 0
Lowest q (Some c) = IsLowest q c

-- Queues and cells hold lines of packets, one for each of eight classes. Each cell is of one queue or is free, and stands
-- there once.
pub record Holds (q : Queues) (cells : List Cell) (lines : List (List Packet)) : Type 0 where
  pub eight : length lines ≡ 8
  pub line : (c : ℕ) → c < 8 → slice_index_or lines c [] ≡ chain cells (queue_of q c).first (queue_of q c).count
  pub counted : (c : ℕ) → c < 8 → (queue_of q c).ticks ≡ ticks_of (slice_index_or lines c [])
  pub ends : (c : ℕ) → c < 8 → last_of (queue_of q c).last (places_of q cells c) ≡ (queue_of q c).last
  pub short : (c : ℕ) → c < 8 → Each (λ p. p.length ≤ 255) (slice_index_or lines c [])
  pub once : (x : ℕ) → sum_to 8 (λ c. occurs x (places_of q cells c)) + occurs x (free_places q cells) ≡ cond (nat_lt x (size cells)) 1 0
  pub whole : waits q + q.free_count ≡ size cells
