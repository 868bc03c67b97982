-- What queues owe their users. Assumes nothing.
use Rattle.std.specs.Prelude.{◌≡◌, ℕ, ◌+◌, ◌<◌, List, [], ◌∷◌, length, slice_index_or, slice_set}
use Rattle.lines.specs.declared.packet.Packet.{Packet}
use Rattle.queues.specs.declared.cell.Cell.{Cell}
use Rattle.queues.specs.declared.queues_of.Queues.{Queues}
use Rattle.queues.specs.declared.queues_of.Taken.TheVariants.{Packet as taken, Nothing}
use Rattle.queues.specs.Lines.{put_in, taken_from, left_by, packets_in, ticks_in}
use Rattle.queues.specs.Held.{Holds}

-- packet is the first of class c, no lower class has one, and the others stay
pub record IsFirst (lines : List (List Packet)) (c : ℕ) (packet : Packet) : Type 0 where
  pub within : c < length lines
  pub below : (d : ℕ) → d < c → slice_index_or lines d [] ≡ []
  pub others : List Packet
  pub line : slice_index_or lines c [] ≡ packet ∷ others
  pub left : left_by lines ≡ slice_set lines c others

pub record QueueLaws : Type 0 where
  -- queues and cells hold one line of packets for each class, and no other
  pub reading : (q : Queues) (cells : List Cell) (lines others : List (List Packet)) → Holds q cells lines → Holds q cells others → lines ≡ others
  -- what is taken is the first of the lowest class
  pub first : (lines : List (List Packet)) (c : ℕ) (packet : Packet) → taken_from 0 lines ≡ taken c packet → IsFirst lines c packet
  -- nothing is taken where there is nothing
  pub nothing : (lines : List (List Packet)) → taken_from 0 lines ≡ Nothing → (left_by lines ≡ lines) × ((c : ℕ) → slice_index_or lines c [] ≡ [])
  -- packets and ticks that wait, after a packet was put or taken
  pub more-packets : (lines : List (List Packet)) (c : ℕ) (packet : Packet) → c < length lines → packets_in (put_in lines c packet) ≡ packets_in lines + 1
  pub more-ticks : (lines : List (List Packet)) (c : ℕ) (packet : Packet) → c < length lines → ticks_in (put_in lines c packet) ≡ ticks_in lines + packet.length
  pub fewer-packets : (lines : List (List Packet)) (c : ℕ) (packet : Packet) → taken_from 0 lines ≡ taken c packet → packets_in (left_by lines) + 1 ≡ packets_in lines
  pub fewer-ticks : (lines : List (List Packet)) (c : ℕ) (packet : Packet) → taken_from 0 lines ≡ taken c packet → ticks_in (left_by lines) + packet.length ≡ ticks_in lines
