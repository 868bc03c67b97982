-- The queues of a port as lists of packets, one for each class. Assumes nothing.
use Rattle.std.specs.Prelude.{ℕ, zero, suc, ◌+◌, List, [], ◌∷◌, ◌++◌, length, slice_index_or, slice_set}
use Rattle.lines.specs.declared.packet.Packet.{Packet}
use Rattle.queues.specs.declared.queues_of.Taken.{Taken}
use Rattle.queues.specs.declared.queues_of.Taken.TheVariants.{Packet as taken, Nothing}

-- a packet more at the end of the queue of a class
abbrev pub put_in : List (List Packet) → ℕ → Packet → List (List Packet)
put_in lines class packet = slice_set lines class (slice_index_or lines class [] ++ packet ∷ [])

-- what is taken: the first packet of the lowest class that has one, where the queues begin with that of class c
unfoldable pub taken_from : ℕ → List (List Packet) → Taken
taken_from c [] = Nothing
taken_from c ([] ∷ lines) = taken_from (c + 1) lines
taken_from c ((packet ∷ packets) ∷ lines) = taken c packet

-- what is left then
unfoldable pub left_by : List (List Packet) → List (List Packet)
left_by [] = []
left_by ([] ∷ lines) = [] ∷ left_by lines
left_by ((packet ∷ packets) ∷ lines) = packets ∷ lines

-- the ticks that packets last together
unfoldable pub ticks_of : List Packet → ℕ
ticks_of [] = 0
ticks_of (packet ∷ packets) = packet.length + ticks_of packets

-- a number of each line, added up
unfoldable pub sum_over : (List Packet → ℕ) → List (List Packet) → ℕ
sum_over f [] = 0
sum_over f (line ∷ lines) = f line + sum_over f lines

-- how many packets wait in all lines, and how many ticks
abbrev pub packets_in : List (List Packet) → ℕ
packets_in lines = sum_over length lines

abbrev pub ticks_in : List (List Packet) → ℕ
ticks_in lines = sum_over ticks_of lines

-- f 0 + f 1 + .. + f (n - 1)
unfoldable pub sum_to : ℕ → (ℕ → ℕ) → ℕ
sum_to zero f = 0
sum_to (suc n) f = sum_to n f + f n
