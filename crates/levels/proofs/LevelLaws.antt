-- Laws of levels. Assumes nothing.
use Rattle.std.proofs.Common.{◌≡◌, ℕ, ◌+◌, ◌-◌, ◌*◌, ◌≤◌, ltb, List, [], ◌∷◌, refl, inl, inr, arith}
use Rattle.std.proofs.lemmas.Bool.{cases_Bool, le-leb, le-ltb}
use Rattle.levels.specs.Levels.{den, LevelModel, level_at, at_tick, passes_now, spent}
use Rattle.levels.specs.Regular.{Pass, NotBefore, InOrder, Regular}
use Rattle.levels.specs.Laws.{level_after, RowsAreLevels, PassedIsRegular, NeverAbove, LevelLaws}
use Rattle.levels.specs.Examples.{WorkedExamples}
use Rattle.levels.proofs.TickLaws.{may, may-only, first_is_first, none_is_never}
use Rattle.levels.proofs.RowLaws.{last_tick, lacks, regular-none, regular_older, regular_lacks, lacks_regular}

-- a level of this burst and rate
pub record LevelOf (b r : ℕ) (l : LevelModel) : Type 0 where
  pub burst : l.burst ≡ b
  pub rate : l.rate ≡ r
  pub low : l.level ≤ den * b

at_level : (burst rate : ℕ) (l : LevelModel) (t : ℕ) → LevelOf burst rate l → LevelOf burst rate (at_tick l t)
at_level burst rate l t is =
    elim (cases_Bool (ltb t l.last)) [
      | inl before ↦ rw before is
      | inr later ↦ rw later (record { burst = is.burst; rate = is.rate; low = omega arith })
    ]

spent-level : (burst rate : ℕ) (l : LevelModel) (len : ℕ) → LevelOf burst rate l → LevelOf burst rate (spent l len)
spent-level burst rate l len is =
    elim (cases_Bool (passes_now l len)) [
      | inl passes ↦ rw passes (record { burst = is.burst; rate = is.rate; low = omega arith })
      | inr waits ↦ rw waits is
    ]

after-level : (burst rate : ℕ) (history : List Pass) → LevelOf burst rate (level_after burst rate history)
after-level burst rate [] = record { burst = refl; rate = refl; low = omega arith }
after-level burst rate (p ∷ older) =
    spent-level burst rate (at_tick (level_after burst rate older) p.at) p.len
    (at_level burst rate (level_after burst rate older) p.at (after-level burst rate older))

pub never_above : NeverAbove
never_above burst rate history t = (at_level burst rate (level_after burst rate history) t (after-level burst rate history)).low

-- a level and what is lacked make up the burst
pub record Whole (b r : ℕ) (history : List Pass) (l : LevelModel) : Type 0 where
  pub burst : l.burst ≡ b
  pub rate : l.rate ≡ r
  pub last : l.last ≡ last_tick history
  pub level : l.level + lacks r history ≡ den * b

last-late : (history : List Pass) (t : ℕ) → NotBefore history t → last_tick history ≤ t
last-late [] t late = omega arith
last-late (p ∷ older) t late = late

module _ (burst rate : ℕ) where
  -- and with a packet more
  whole-more : (l : LevelModel) (p : Pass) (older : List Pass) → NotBefore older p.at → Whole burst rate older l →
      lacks rate (p ∷ older) ≤ den * burst → Whole burst rate (p ∷ older) (spent (at_tick l p.at) p.len)
  whole-more l p older late whole fits =
      let later : l.last ≤ p.at = omega (arith, last-late older p.at late) in
      let ticks : l.rate * (p.at - l.last) ≡ rate * (p.at - last_tick older) = rw (whole.rate, whole.last) refl in
      let enough : den * p.len ≤ level_at l p.at = omega arith in
      rw (le-ltb p.at l.last later, le-leb (den * p.len) (level_at l p.at) enough)
      (record { burst = whole.burst; rate = whole.rate; last = refl; level = omega arith })

  pub whole-after : (history : List Pass) → InOrder history → Regular burst rate history → Whole burst rate history (level_after burst rate history)
  whole-after [] order regular = record { burst = refl; rate = refl; last = refl; level = omega arith }
  whole-after (p ∷ older) order regular =
      whole-more (level_after burst rate older) p older order.0
      (whole-after older order.1 (regular_older burst rate p older regular))
      (regular_lacks burst rate p older order regular)

pub rows_are_levels : RowsAreLevels
rows_are_levels burst rate history t len order late regular =
    let l = level_after burst rate history in
    let whole = whole-after burst rate history order regular in
    let p : Pass = record { at = t; len = len } in
    let later : l.last ≤ t = omega (arith, last-late history t late) in
    let ticks : l.rate * (t - l.last) ≡ rate * (t - last_tick history) = rw (whole.rate, whole.last) refl in (
      λ passes.
          let enough = may-only l t len later passes in
          lacks_regular burst rate p history (late, order) (omega arith) regular,
      λ more.
          let fits = regular_lacks burst rate p history (late, order) more in
          may l t len later (omega arith),
    )

pub passed_is_regular : PassedIsRegular
passed_is_regular burst rate [] order = (λ _. regular-none burst rate, λ _. tt)
passed_is_regular burst rate (p ∷ older) order =
    let before = passed_is_regular burst rate older order.1 in (
      λ passed.
          let regular = before.0 passed.1 in
          (rows_are_levels burst rate older p.at p.len order.1 order.0 regular).0 passed.0,
      λ regular.
          let less = regular_older burst rate p older regular in
          ((rows_are_levels burst rate older p.at p.len order.1 order.0 less).1 regular, before.1 less),
    )

pub worked-examples : WorkedExamples
worked-examples = (refl, (refl, (refl, (refl, (refl, (refl, (refl, (refl, (refl, tt)))))))))

pub level_laws : LevelLaws
level_laws =
    record {
      rows = rows_are_levels;
      passed = passed_is_regular;
      first = first_is_first;
      never = none_is_never;
      below = never_above;
      examples = worked-examples;
    }
