-- The first that passes a test. Assumes nothing.
use Rattle.std.proofs.Common.{◌≡◌, ℕ, zero, suc, ◌+◌, ◌<◌, ◌≤◌, Bool, true, false, cond, Some, None, Option, sym, refl, ap, ◌∙◌, inl, inr, arith}
use Rattle.std.specs.List.{find, range_with_len}
use Rattle.std.proofs.lemmas.Bool.{cases_eq}
use Rattle.std.proofs.lemmas.Option.{none-some}
use Rattle.std.specs.Option.{MatchOption, IsSomeAnd, option_map}
use Rattle.admission.proofs.FoundLaws.{made_by_map}
use Rattle.admission.specs.Lowest.{lowest, LowestLaw}

-- what a search through the range finds
lowest_find : (test : ℕ → Bool) (n k : ℕ) → lowest test n k ≡ find test (range_with_len k n)
unfolding lowest
lowest_find test zero k = refl
lowest_find test (suc n) k = ap (λ rest. cond (test k) (Some k) rest) (lowest_find test n (k + 1))

-- what is made of what the search found
pub lowest_made : {C : Type 0} (v : ℕ → C) (Q : ℕ → C → Type 0) (found : Option ℕ) (r : Option C) (test : ℕ → Bool) (n : ℕ) →
    ((x : ℕ) (y : C) → Q x y → y ≡ v x) → MatchOption found (r ≡ None) (λ x. IsSomeAnd r (Q x)) →
    option_map (λ x. x) found ≡ find test (range_with_len 0 n) → r ≡ option_map v (lowest test n 0)
lowest_made v Q found r test n makes is seen =
    made_by_map (λ x. x) v Q found r makes is ∙ ap (option_map v) (seen ∙ sym (lowest_find test n 0))

-- what was found from k on, passes and is the first
found_from : (test : ℕ → Bool) (n k j : ℕ) → lowest test n k ≡ Some j →
    (k ≤ j) × (j < k + n) × (test j ≡ true) × ((i : ℕ) → k ≤ i → i < j → test i ≡ false)
unfolding lowest
found_from test zero k j e = absurd (none-some j e)
found_from test (suc n) k j e = by (test k) refl e (found_from test n (k + 1) j)
  where
    by : (b : Bool) → test k ≡ b → cond b (Some k) (lowest test n (k + 1)) ≡ Some j →
        (lowest test n (k + 1) ≡ Some j → (k + 1 ≤ j) × (j < k + 1 + n) × (test j ≡ true) × ((i : ℕ) → k + 1 ≤ i → i < j → test i ≡ false)) →
        (k ≤ j) × (j < k + suc n) × (test j ≡ true) × ((i : ℕ) → k ≤ i → i < j → test i ≡ false)
    by true passes got more =
        let same : k ≡ j = cc in
        (omega arith, omega arith, ap test (sym same) ∙ passes, λ i low high. absurd (omega arith))
    by false fails got more =
        let rest = more got in (
          omega (arith, rest.0),
          omega (arith, rest.1),
          rest.2,
          λ i low high. elim (cases_eq i k) [ inl same ↦ ap test same ∙ fails | inr differs ↦ rest.3 i (omega arith) high ],
        )

none_from : (test : ℕ → Bool) (n k : ℕ) → lowest test n k ≡ None → (i : ℕ) → k ≤ i → i < k + n → test i ≡ false
unfolding lowest
none_from test zero k e i low high = absurd (omega arith)
none_from test (suc n) k e i low high = by (test k) refl e (none_from test n (k + 1))
  where
    by : (b : Bool) → test k ≡ b → cond b (Some k) (lowest test n (k + 1)) ≡ None →
        (lowest test n (k + 1) ≡ None → (m : ℕ) → k + 1 ≤ m → m < k + 1 + n → test m ≡ false) → test i ≡ false
    by true passes got more = absurd (none-some k (sym got))
    by false fails got more = elim (cases_eq i k) [ inl same ↦ ap test same ∙ fails | inr differs ↦ more got i (omega arith) (omega arith) ]

pub lowest_law : LowestLaw
lowest_law test n =
    record {
      passes = λ j e. let found = found_from test n 0 j e in (omega (arith, found.1), found.2);
      first = λ i j e below. (found_from test n 0 j e).3 i (omega arith) below;
      none = λ e i below. none_from test n 0 e i (omega arith) (omega arith);
    }
