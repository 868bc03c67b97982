-- Needs that are added up one by one. Assumes nothing.
use Rattle.std.proofs.Common.{◌≡◌, ℕ, zero, suc, ◌+◌, ◌≤◌, map, sum, sym, ap, ◌∙◌, arith}
use Rattle.std.specs.List.{range_with_len}
use Rattle.std.specs.declared.ops.Range.{Range}
use Rattle.std.proofs.iter.Yields.{nat_range_steps}
use Rattle.std.proofs.lemmas.Iterator.{YieldsList-from_range}
use Rattle.std.proofs.lemmas.Iterator.Adapters.{YieldsAtMost, at_most_from_yields_List}
use Rattle.std.proofs.lemmas.List.FromFn.{length-range_with_len, sum_by-map-range_with_len_more}

-- the sum of what h gives for 0 to n - 1 is f n, where f adds one of them after the other
pub added : (h f : ℕ → ℕ) → f 0 ≡ 0 → ((n : ℕ) → f (suc n) ≡ f n + h n) → (n : ℕ) → sum (map h (range_with_len 0 n)) ≡ f n
added h f none more zero = sym none
added h f none more (suc n) =
    ap (λ k. sum (map h (range_with_len 0 k))) (next n) ∙ sum_by-map-range_with_len_more (λ x. x) h 0 n n (omega arith) ∙ ap (λ m. m + h n) (added h f none more n) ∙ sym (more n)
  where
    next : (n : ℕ) → suc n ≡ n + 1
    next n = omega arith

-- a range of so many numbers at most
pub few : {s : Range ℕ} (count n : ℕ) → s ≡ record { start = 0; end = count } → count ≤ n → YieldsAtMost nat_range_steps s n
few count n is less = at_most_from_yields_List (YieldsList-from_range 0 count count is (omega arith)) (omega (arith, length-range_with_len 0 count))
