-- What the answers of a gate say of what waits. Assumes nothing.
use Rattle.std.specs.Prelude.{◌≡◌, ℕ, Bool, List, map, Some, None, Option}
use Rattle.lines.specs.declared.line.Line.{Line}
use Rattle.lines.specs.declared.packet.Packet.{Packet}
use Rattle.lines.specs.Lines.{waits, Fits}
use Rattle.levels.specs.declared.level.Level.{Level}
use Rattle.levels.specs.Models.{level_model}
use Rattle.queues.specs.declared.cell.Cell.{Cell}
use Rattle.queues.specs.declared.queues_of.Queues.{Queues}
use Rattle.queues.specs.Held.{Holds}
use Rattle.gates.specs.Gates.{Opened, opened}

-- line, levels and queues are those of an opened gate
pub record Opens (waiting : List Packet) (line : Line) (levels : List Level) (queues : Queues) (memory : List Cell) (o : Opened) : Type 0 where
  pub left : waits waiting line ≡ o.waits
  pub fits : Fits waiting line
  pub spent : map level_model levels ≡ o.levels
  pub held : Holds queues memory o.queues

-- what is left, opened from now on, ends as this
pub record Ends (room : ℕ) (at_edge : Bool) (classes : List ℕ) (tick : ℕ) (waiting : List Packet) (line : Line) (levels : List Level) (queues : Queues) (memory : List Cell) (o : Opened) : Type 0 where
  pub present : List (List Packet)
  pub fits : Fits waiting line
  pub held : Holds queues memory present
  pub ends : opened room at_edge classes tick (waits waiting line) (map level_model levels) present ≡ o

-- after the first passed the rest is opened; where it did not, the gate has been opened
abbrev pub StepEnds : ℕ → Bool → List ℕ → ℕ → List Packet → Line → Option Line → List Level → Queues → List Cell → Opened → Type 0
StepEnds room at_edge classes tick waiting line None levels queues memory o = Opens waiting line levels queues memory o
StepEnds room at_edge classes tick waiting line (Some next) levels queues memory o = Ends room at_edge classes tick waiting next levels queues memory o
