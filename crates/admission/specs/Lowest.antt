-- The first that passes a test. Assumes nothing.
use Rattle.std.specs.Prelude.{◌≡◌, ℕ, zero, suc, ◌+◌, ◌<◌, Bool, true, false, cond, Some, None, Option}

-- the lowest of the n numbers from k on that passes a test
unfoldable pub lowest : (ℕ → Bool) → ℕ → ℕ → Option ℕ
lowest test zero k = None
lowest test (suc n) k = cond (test k) (Some k) (lowest test n (k + 1))

-- it passes, and none below it does; or none does at all
pub record Lowest (test : ℕ → Bool) (n : ℕ) : Type 0 where
  pub passes : (j : ℕ) → lowest test n 0 ≡ Some j → (j < n) × (test j ≡ true)
  pub first : (i j : ℕ) → lowest test n 0 ≡ Some j → i < j → test i ≡ false
  pub none : lowest test n 0 ≡ None → (i : ℕ) → i < n → test i ≡ false

abbrev pub LowestLaw : Type 0
LowestLaw = (test : ℕ → Bool) (n : ℕ) → Lowest test n
