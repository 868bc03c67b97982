-- What the code at a regulator has done in a tick. Assumes nothing.
use Rattle.std.specs.Prelude.{◌≡◌, ℕ, ◌+◌, ◌-◌, ◌≤◌, true, false, List, [], ◌∷◌, ◌++◌, map, length, drop, Some, None, Option}
use Rattle.lines.specs.declared.counted.Counted.{Counted}
use Rattle.lines.specs.declared.line.Line.{Line}
use Rattle.lines.specs.declared.packet.Packet.{Packet}
use Rattle.lines.specs.Lines.{waits, Fits}
use Rattle.lines.specs.Ticks.{Counts}
use Rattle.levels.specs.declared.level.Level.{Level}
use Rattle.levels.specs.Models.{level_model}
use Rattle.queues.specs.declared.cell.Cell.{Cell}
use Rattle.queues.specs.declared.queues_of.Queues.{Queues}
use Rattle.queues.specs.Held.{Holds}
use Rattle.gates.specs.Opens.{Opens}
use Rattle.regulators.specs.declared.coming.Coming.{Coming}
use Rattle.regulators.specs.Judged.{Judged, judged, inner_accepts, GateTick, edge_tick}

-- with the numbers of others that were refused before
abbrev pub behind : List ℕ → GateTick → GateTick
behind numbers t = record { refused = numbers ++ t.refused; opened = t.opened }

-- line, levels and queues are those of an opened gate, and these numbers those of all that were refused
pub record Ticked (cells : List Packet) (line : Line) (levels : List Level) (queues : Queues) (memory : List Cell) (refused : List ℕ) (t : GateTick) : Type 0 where
  pub opens : Opens cells line levels queues memory t.opened
  pub numbers : refused ≡ t.refused

-- at the edge: those that are still to come, judged from now on, end as this
pub record EdgeEnds (room : ℕ) (classes : List ℕ) (tick : ℕ) (cells : List Packet) (line : Line) (levels : List Level) (queues : Queues) (memory : List Cell) (refused : List ℕ) (coming : List Coming) (t : GateTick) : Type 0 where
  pub present : List (List Packet)
  pub fits : Fits cells line
  pub many : length cells ≡ 64
  pub held : Holds queues memory present
  pub ends : behind refused (edge_tick room classes tick (waits cells line) (map level_model levels) present coming) ≡ t

-- inside: the numbers of others before
abbrev pub judged_behind : List ℕ → Judged → Judged
judged_behind numbers j = record { waits = j.waits; refused = numbers ++ j.refused }

-- A line that is counted rightly, within what is set aside, in one cell more than that.
pub record Sound (aside : ℕ) (cells : List Packet) (counted : Counted) : Type 0 where
  pub fits : Fits cells counted.line
  pub counts : Counts cells counted
  pub many : length cells ≡ aside + 1
  pub kept : counted.ticks ≤ aside

-- those that are still to come, judged from now on, end as this
pub record InnerEnds (aside : ℕ) (cells : List Packet) (counted : Counted) (refused : List ℕ) (coming : List Coming) (j : Judged) : Type 0 where
  pub sound : Sound aside cells counted
  pub ends : judged_behind refused (judged (inner_accepts aside) (waits cells counted.line) coming) ≡ j

-- what one more is answered
pub record Accepted (aside : ℕ) (before after : List Packet) (counted next : Counted) (packet : Packet) : Type 0 where
  pub accepts : inner_accepts aside (waits before counted.line) packet ≡ true
  pub order : waits after next.line ≡ waits before counted.line ++ packet ∷ []
  pub sound : Sound aside after next

pub record Refused (aside : ℕ) (before after : List Packet) (counted : Counted) (packet : Packet) : Type 0 where
  pub refuses : inner_accepts aside (waits before counted.line) packet ≡ false
  pub cells : after ≡ before

abbrev pub AcceptMeans : ℕ → List Packet → List Packet → Counted → Packet → Option Counted → Type 0
AcceptMeans aside before after counted packet None = Refused aside before after counted packet
AcceptMeans aside before after counted packet (Some next) = Accepted aside before after counted next packet

-- the line without its first packets, so that so many are left
pub record LeftOf (cells : List Packet) (counted : Counted) (count : ℕ) (left : Counted) : Type 0 where
  pub fits : Fits cells left.line
  pub counts : Counts cells left
  pub order : waits cells left.line ≡ drop (counted.line.count - count) (waits cells counted.line)
