-- Lines of what waits, and the cells that they go round in. Assumes nothing.
use Rattle.std.specs.Prelude.{ℕ, ◌+◌, ◌-◌, ◌<◌, ◌≤◌, Bool, cond, ◌&&◌, List, [], ◌∷◌, ◌++◌, length, take, drop, Some, None, Option, nat_le, nat_lt, slice_set}
use Rattle.lines.specs.declared.line.Line.{Line}

-- what waits, in order: from the first on to the end of the cells, and on from their beginning
abbrev pub waiting : {X : Type 0} → List X → ℕ → ℕ → List X
waiting cells first count = take count (drop first cells ++ cells)

abbrev pub waits : {X : Type 0} → List X → Line → List X
waits cells line = waiting cells line.first line.count

-- a line fits its cells if it begins within them, and no more wait than there are
abbrev pub Fits : {X : Type 0} → List X → Line → Type 0
Fits cells line = (line.first < length cells) × (line.count ≤ length cells)

-- the first of a list, and what is left of it
abbrev pub head_of : {X : Type 0} → List X → Option X
head_of [] = None
head_of (x ∷ xs) = Some x

abbrev pub tail_of : {X : Type 0} → List X → List X
tail_of [] = []
tail_of (x ∷ xs) = xs

-- the place that stands so many places after another, going on at the beginning
abbrev pub place_after : ℕ → ℕ → ℕ → ℕ
place_after cells from after = cond (nat_lt after (cells - from)) (from + after) (after - (cells - from))

-- a line that fits so many cells, and in which something waits; and one in which there is room for one more
abbrev pub some_wait : ℕ → Line → Bool
some_wait cells line = nat_lt line.first cells && (nat_le line.count cells && nat_lt 0 line.count)

abbrev pub has_room : ℕ → Line → Bool
has_room cells line = nat_lt line.first cells && nat_lt line.count cells

abbrev pub empty_line : Line
empty_line = record { first = 0; count = 0 }

-- the place after its last
abbrev pub end_place : ℕ → Line → ℕ
end_place cells line = place_after cells line.first line.count

abbrev pub end_of : ℕ → Line → Option ℕ
end_of cells line = cond (has_room cells line) (Some (end_place cells line)) None

-- one more at the end; where there is no room, nothing changes
abbrev pub longer : Line → Line
longer line = record { first = line.first; count = line.count + 1 }

abbrev pub pushed_line : ℕ → Line → Option Line
pushed_line cells line = cond (has_room cells line) (Some (longer line)) None

abbrev pub pushed_cells : {X : Type 0} → List X → Line → X → List X
pushed_cells cells line value = cond (has_room (length cells) line) (slice_set cells (end_place (length cells) line) value) cells

-- the first that waits
abbrev pub first_waiting : {X : Type 0} → List X → Line → Option X
first_waiting cells line = cond (some_wait (length cells) line) (head_of (waits cells line)) None

-- the line without its first
abbrev pub shorter : ℕ → Line → Line
shorter cells line = record { first = place_after cells line.first 1; count = line.count - 1 }

abbrev pub dropped_line : ℕ → Line → Option Line
dropped_line cells line = cond (some_wait cells line) (Some (shorter cells line)) None

-- the part of the cells that begins at the first; empty where nothing waits
abbrev pub begin_of : ℕ → Line → ℕ
begin_of cells line = cond (some_wait cells line) line.first cells

abbrev pub from_first : {X : Type 0} → List X → Line → List X
from_first cells line = cond (some_wait (length cells) line) (drop line.first cells) []
