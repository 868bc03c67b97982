-- What the answers of a line say of what waits. Assumes nothing.
use Rattle.std.specs.Prelude.{◌≡◌, ◌<◌, List, [], ◌∷◌, ◌++◌, length, Some, None, Option}
use Rattle.lines.specs.declared.line.Line.{Line}
use Rattle.lines.specs.Lines.{waits, Fits, tail_of}

-- a line that was not full waits for the value too, after all others, in as many cells
pub record Longer {X : Type 0} (before after : List X) (line next : Line) (value : X) : Type 0 where
  pub room : line.count < length before
  pub order : waits after next ≡ waits before line ++ value ∷ []
  pub fits : Fits after next
  pub cells : length after ≡ length before

-- a full line is refused, and the cells stay as they are
pub record Full {X : Type 0} (before after : List X) (line : Line) : Type 0 where
  pub full : line.count ≡ length before
  pub cells : after ≡ before

abbrev pub PushMeans : {X : Type 0} → List X → List X → Line → X → Option Line → Type 0
PushMeans before after line value None = Full before after line
PushMeans before after line value (Some next) = Longer before after line next value

-- a line in which something waited waits for the rest of it
pub record Shorter {X : Type 0} (cells : List X) (line next : Line) : Type 0 where
  pub some : 0 < line.count
  pub order : waits cells next ≡ tail_of (waits cells line)
  pub fits : Fits cells next

abbrev pub DropMeans : {X : Type 0} → List X → Line → Option Line → Type 0
DropMeans cells line None = line.count ≡ 0
DropMeans cells line (Some next) = Shorter cells line next
