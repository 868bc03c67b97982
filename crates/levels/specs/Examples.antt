-- Worked examples, as rows of one table. Assumes nothing.
use Rattle.std.specs.Prelude.{◌≡◌, ℕ, List, [], ◌∷◌, Some, None, Option}
use Rattle.levels.specs.Levels.{LevelModel, full_level, at_tick, spent, first_pass}

-- a flow of burst 4 and rate 250,000, whose packets take 3 ticks
abbrev pub fresh : LevelModel
fresh = full_level 4 250000

-- one has passed at tick 0
abbrev pub once : LevelModel
once = spent (at_tick fresh 0) 3

-- and one more at tick 8
abbrev pub twice : LevelModel
twice = spent (at_tick once 8) 3

-- each row: a tick or a level of the definitions, and what it is
pub record Row : Type 0 where
  pub computed : Option ℕ
  pub worked : Option ℕ

abbrev pub row : Option ℕ → Option ℕ → Row
row computed worked = record { computed = computed; worked = worked }

abbrev pub examples : List Row
examples =
    row (first_pass fresh 3) (Some 0) ∷
    row (Some once.level) (Some 1000000) ∷
    row (first_pass once 3) (Some 8) ∷
    row (Some (at_tick once 7).level) (Some 2750000) ∷
    row (Some (at_tick once 8).level) (Some 3000000) ∷
    row (Some (at_tick once 100).level) (Some 4000000) ∷
    row (Some twice.level) (Some 0) ∷
    row (first_pass twice 3) (Some 20) ∷
    row (first_pass fresh 5) None ∷ []

abbrev pub Hold : List Row → Type 0
Hold [] = Unit {0}
Hold (r ∷ rs) = (r.computed ≡ r.worked) × Hold rs

abbrev pub WorkedExamples : Type 0
WorkedExamples = Hold examples
