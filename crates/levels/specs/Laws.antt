-- Laws of levels. Assumes nothing.
use Rattle.std.specs.Prelude.{◌≡◌, ℕ, ◌*◌, ◌^◌, ◌<◌, ◌≤◌, true, false, List, [], ◌∷◌, Some, None, Decides}
use Rattle.levels.specs.Levels.{den, LevelModel, full_level, at_tick, may_pass, spent, first_pass}
use Rattle.levels.specs.Regular.{Pass, NotBefore, InOrder, Regular}
use Rattle.levels.specs.Examples.{WorkedExamples}

-- the level after a history, from the oldest pass on
abbrev pub level_after : ℕ → ℕ → List Pass → LevelModel
level_after burst rate [] = full_level burst rate
level_after burst rate (p ∷ older) = spent (at_tick (level_after burst rate older) p.at) p.len

-- after a regular history a packet may pass by the level exactly if the history with it is regular
abbrev pub RowsAreLevels : Type 0
RowsAreLevels =
    (burst rate : ℕ) (history : List Pass) (t len : ℕ) → InOrder history → NotBefore history t → Regular burst rate history →
    Decides (may_pass (level_after burst rate history) t len) (Regular burst rate (record { at = t; len = len } ∷ history))

-- each pass of a history was allowed by the level after those before it
abbrev pub Passed : ℕ → ℕ → List Pass → Type 0
Passed burst rate [] = Unit {0}
Passed burst rate (p ∷ older) = (may_pass (level_after burst rate older) p.at p.len ≡ true) × Passed burst rate older

-- so histories that levels allow are those that are regular
abbrev pub PassedIsRegular : Type 0
PassedIsRegular =
    (burst rate : ℕ) (history : List Pass) → InOrder history →
    (Passed burst rate history → Regular burst rate history) × (Regular burst rate history → Passed burst rate history)

-- a rate is not 0, and a level is at most its burst
pub record Sound (l : LevelModel) : Type 0 where
  pub rate : 1 ≤ l.rate
  pub level : l.level ≤ den * l.burst

-- t is the first tick from the last one on at which a packet of this length may pass; at all later ticks it may too
pub record First (l : LevelModel) (len t : ℕ) : Type 0 where
  pub from : l.last ≤ t
  pub not_before : (s : ℕ) → l.last ≤ s → s < t → may_pass l s len ≡ false
  pub then : (s : ℕ) → t ≤ s → may_pass l s len ≡ true

abbrev pub FirstIsFirst : Type 0
FirstIsFirst = (l : LevelModel) (len t : ℕ) → Sound l → first_pass l len ≡ Some t → First l len t

-- and where none is given, there is none of 64 bits
abbrev pub NoneIsNever : Type 0
NoneIsNever =
    (l : LevelModel) (len s : ℕ) → Sound l → first_pass l len ≡ None → l.last ≤ s → s < 2 ^ 64 → may_pass l s len ≡ false

-- levels never pass the burst
abbrev pub NeverAbove : Type 0
NeverAbove = (burst rate : ℕ) (history : List Pass) (t : ℕ) → (at_tick (level_after burst rate history) t).level ≤ den * burst

-- all of these, and the worked examples
pub record LevelLaws : Type 0 where
  pub rows : RowsAreLevels
  pub passed : PassedIsRegular
  pub first : FirstIsFirst
  pub never : NoneIsNever
  pub below : NeverAbove
  pub examples : WorkedExamples
