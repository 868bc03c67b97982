-- The ticks of sending that wait in a line of packets. Assumes nothing.
use Rattle.std.specs.Prelude.{◌≡◌, ℕ, ◌+◌, ◌-◌, ◌^◌, Bool, cond, List, [], ◌∷◌, length, Some, None, Option, nat_lt}
use Rattle.std.specs.Option.{option_map}
use Rattle.lines.specs.declared.counted.Counted.{Counted}
use Rattle.lines.specs.declared.line.Line.{Line}
use Rattle.lines.specs.declared.packet.Packet.{Packet}
use Rattle.lines.specs.Lines.{waits, head_of, empty_line, some_wait, shorter, pushed_line, pushed_cells}
use Rattle.lines.specs.Means.{Longer, Shorter}

-- the ticks of a row of packets
abbrev pub ticks_of : List Packet → ℕ
ticks_of [] = 0
ticks_of (p ∷ ps) = p.length + ticks_of ps

-- what is counted is what waits
abbrev pub Counts : List Packet → Counted → Type 0
Counts cells counted = counted.ticks ≡ ticks_of (waits cells counted.line)

abbrev pub no_ticks : Counted
no_ticks = record { line = empty_line; ticks = 0 }

-- with so many ticks
abbrev pub counting : ℕ → Line → Counted
counting ticks line = record { line = line; ticks = ticks }

-- ticks are of 64 bits
abbrev pub countable : Counted → Packet → Bool
countable counted packet = nat_lt (counted.ticks + packet.length) (2 ^ 64)

-- one more at the end; where there is no room, nothing changes
abbrev pub counted_push : ℕ → Counted → Packet → Option Counted
counted_push cells counted packet =
    cond (countable counted packet) (option_map (counting (counted.ticks + packet.length)) (pushed_line cells counted.line)) None

abbrev pub counted_cells : List Packet → Counted → Packet → List Packet
counted_cells cells counted packet = cond (countable counted packet) (pushed_cells cells counted.line packet) cells

-- the ticks of the first that waits
abbrev pub first_ticks : Option Packet → ℕ
first_ticks None = 0
first_ticks (Some p) = p.length

-- the line without its first
abbrev pub counted_drop : List Packet → Counted → Option Counted
counted_drop cells counted =
    cond (some_wait (length cells) counted.line)
    (Some (counting (counted.ticks - first_ticks (head_of (waits cells counted.line))) (shorter (length cells) counted.line))) None

-- what was counted rightly is counted rightly again
abbrev pub PushCounts : List Packet → List Packet → Counted → Packet → Option Counted → Type 0
PushCounts before after counted packet None = after ≡ before
PushCounts before after counted packet (Some next) = Longer before after counted.line next.line packet × Counts after next

abbrev pub DropCounts : List Packet → Counted → Option Counted → Type 0
DropCounts cells counted None = counted.line.count ≡ 0
DropCounts cells counted (Some next) = Shorter cells counted.line next.line × Counts cells next
