-- A sum that stays at the largest number. Assumes nothing.
use Rattle.std.proofs.Common.{◌≡◌, ℕ, ◌+◌, ◌≤◌, min, List, ◌<◌, [], ◌∷◌, ◌∙◌, arith}
use Rattle.std.specs.List.{fold, sum_by}
use Rattle.std.proofs.lemmas.List.Sums.{sum_by-cons}

pub counted : {X : Type 0} (f : X → ℕ) (xs : List X) (a : ℕ) → a ≤ 18446744073709551615 →
    fold (λ n x. min (n + f x) 18446744073709551615) a xs ≡ min (a + sum_by f xs) 18446744073709551615
counted f [] a few = omega arith
counted f (x ∷ xs) a few =
    let more : sum_by f (x ∷ xs) ≡ f x + sum_by f xs = sum_by-cons f x xs in
    counted f xs (min (a + f x) 18446744073709551615) (omega arith) ∙ omega arith

-- there is room for all
pub enough : (first second one two more len cap : ℕ) → one ≡ min first 18446744073709551615 → two ≡ min second 18446744073709551615 →
    more ≡ min (one + two) 18446744073709551615 → len + more ≤ cap → cap < 9223372036854775808 → len + first + second ≤ cap
enough first second one two more len cap is also all fits small = omega arith
