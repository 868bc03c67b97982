-- The rule by rows: when the ticks at which packets of a flow pass are regular. Assumes nothing.
use Rattle.std.specs.Prelude.{◌≡◌, ℕ, ◌+◌, ◌-◌, ◌*◌, ◌≤◌, List, [], ◌∷◌, ◌++◌}
use Rattle.levels.specs.Levels.{den}

-- a packet passes at a tick, with its length in ticks of sending
pub record Pass : Type 0 where
  pub at : ℕ
  pub len : ℕ

-- A history is a list of passes, the newest first. Tick t is not before its newest pass.
abbrev pub NotBefore : List Pass → ℕ → Type 0
NotBefore [] t = Unit {0}
NotBefore (p ∷ older) t = p.at ≤ t

-- from the newest pass to the oldest, ticks do not rise
abbrev pub InOrder : List Pass → Type 0
InOrder [] = Unit {0}
InOrder (p ∷ older) = NotBefore older p.at × InOrder older

-- the ticks of sending of a row
abbrev pub ticks_of : List Pass → ℕ
ticks_of [] = 0
ticks_of (p ∷ ps) = p.len + ticks_of ps

-- the oldest pass of a row, which begins with its newest
abbrev pub oldest : Pass → List Pass → Pass
oldest newest [] = newest
oldest newest (p ∷ ps) = oldest p ps

-- the bound on one row: the burst, and the rate for each tick between its oldest pass and its newest
abbrev pub RowKept : ℕ → ℕ → Pass → List Pass → Type 0
RowKept burst rate newest rest =
    den * ticks_of (newest ∷ rest) ≤ den * burst + rate * (newest.at - (oldest newest rest).at)

-- every row of successive passes keeps the bound, wherever it is cut out of the history
abbrev pub Regular : ℕ → ℕ → List Pass → Type 0
Regular burst rate history =
    (newer rest older : List Pass) (newest : Pass) → newer ++ (newest ∷ (rest ++ older)) ≡ history → RowKept burst rate newest rest
