-- Numbers and their bytes are one another's inverse. Assumes nothing.
use Rattle.std.proofs.Common.{◌≡◌, ℕ, zero, suc, ◌+◌, ◌*◌, ◌/◌, ◌%◌, ◌^◌, ◌<◌, ◌≤◌, ◌≢◌, Some, Ok, Err, Result, List, [], ◌∷◌, length, get_or, refl, ap, sym, mod-lt, mod-eq_of_lt, add-mul, div-add-mod', div-lt_iff_lt-mul, arith}
use native.Mathlib.Nat.{mul-add-mod_self_right, pow-zero, pow-succ'}
use Rattle.std.specs.List.{AllByRecursion as Each}
use Rattle.std.specs.Prelude.{MatchResult}
use Rattle.std.specs.Result.{result_ok}
use Rattle.std.specs.Array.{IsWholeChunk}
use Rattle.std.proofs.lemmas.Option.{none-some}
use Rattle.std.proofs.lemmas.Nat.{div-mul-add, mul-le}
use Rattle.record_bytes.specs.Numbers.{value, bytes_of, IsByte}

power_positive : (k : ℕ) → 0 < 256 ^ k
power_positive zero = rw (pow-zero 256) (omega arith)
power_positive (suc k) = rw (pow-succ' 256 k) (let p = power_positive k in omega arith)

pub length-bytes_of : (k n : ℕ) → length (bytes_of k n) ≡ k
unfolding bytes_of
length-bytes_of zero n = refl
length-bytes_of (suc k) n = ap suc (length-bytes_of k (n % 256 ^ k))

pub value-bytes_of : (k n : ℕ) → n < 256 ^ k → value (bytes_of k n) ≡ n
unfolding bytes_of value
value-bytes_of zero n h = let e = pow-zero 256 in omega arith
value-bytes_of (suc k) n h =
    let low = mod-lt n (power_positive k) in
    rw (length-bytes_of k (n % 256 ^ k), value-bytes_of k (n % 256 ^ k) low, div-add-mod' n (256 ^ k)) refl

pub value-below : (bs : List ℕ) → Each IsByte bs → value bs < 256 ^ length bs
unfolding value
value-below [] h = rw (pow-zero 256) (omega arith)
value-below (b ∷ bs) h =
    rw (pow-succ' 256 (length bs))
    (let low = value-below bs h.1 in
    let high : (b + 1) * 256 ^ length bs ≤ 256 * 256 ^ length bs = mul-le (b + 1) (256 ^ length bs) 256 (256 ^ length bs) (omega (arith, h.0)) (omega arith) in
    let sum = add-mul b 1 (256 ^ length bs) in
    omega arith)

pub bytes_of-value : (bs : List ℕ) → Each IsByte bs → bytes_of (length bs) (value bs) ≡ bs
unfolding value bytes_of
bytes_of-value [] h = refl
bytes_of-value (b ∷ bs) h =
    let low = value-below bs h.1 in
    rw (div-mul-add b (256 ^ length bs) (value bs) low, mul-add-mod_self_right b (256 ^ length bs) (value bs), mod-eq_of_lt low, bytes_of-value bs h.1) refl

pub bytes_of-bytes : (k n : ℕ) → n < 256 ^ k → Each IsByte (bytes_of k n)
unfolding bytes_of
bytes_of-bytes zero n h = tt
bytes_of-bytes (suc k) n h =
    let positive = power_positive k in
    let bound : n < 256 * 256 ^ k = rw (← pow-succ' 256 k) h in
    ((div-lt_iff_lt-mul positive).1 bound, bytes_of-bytes k (n % 256 ^ k) (mod-lt n positive))

-- the bytes of a number as the code writes them
pub bytes_of_one : (n : ℕ) → bytes_of 1 n ≡ n ∷ []
unfolding bytes_of
bytes_of_one n = let e : n / 1 ≡ n = omega arith in rw e refl

pub bytes_of_two : (n : ℕ) → bytes_of 2 n ≡ n / 256 ∷ n % 256 ∷ []
unfolding bytes_of
bytes_of_two n = let e : n % 256 / 1 ≡ n % 256 = omega arith in rw e refl

pub bytes_of_four : (n : ℕ) → bytes_of 4 n ≡ n / 16777216 ∷ n / 65536 % 256 ∷ n / 256 % 256 ∷ n % 256 ∷ []
unfolding bytes_of
bytes_of_four n =
    let second : n % 16777216 / 65536 ≡ n / 65536 % 256 = omega arith in
    let third : n % 16777216 % 65536 / 256 ≡ n / 256 % 256 = omega arith in
    let last : n % 16777216 % 65536 % 256 / 1 ≡ n % 256 = omega arith in
    rw (second, third, last) refl

-- the number that so many bytes stand for, as the code computes it
pub value_of_one : (bs : List ℕ) → length bs ≡ 1 → get_or bs 0 0 ≡ value bs
unfolding value
value_of_one [] size = absurd (omega arith)
value_of_one (a ∷ []) size = omega arith
value_of_one (a ∷ b ∷ bs) size = absurd (omega arith)

pub value_of_two : (bs : List ℕ) → length bs ≡ 2 → get_or bs 0 0 * 256 + get_or bs 1 0 ≡ value bs
unfolding value
value_of_two [] size = absurd (omega arith)
value_of_two (a ∷ []) size = absurd (omega arith)
value_of_two (a ∷ b ∷ []) size = omega arith
value_of_two (a ∷ b ∷ c ∷ bs) size = absurd (omega arith)

pub value_of_four : (bs : List ℕ) → length bs ≡ 4 →
    get_or bs 0 0 * 16777216 + get_or bs 1 0 * 65536 + get_or bs 2 0 * 256 + get_or bs 3 0 ≡ value bs
unfolding value
value_of_four [] size = absurd (omega arith)
value_of_four (a ∷ []) size = absurd (omega arith)
value_of_four (a ∷ b ∷ []) size = absurd (omega arith)
value_of_four (a ∷ b ∷ c ∷ []) size = absurd (omega arith)
value_of_four (a ∷ b ∷ c ∷ d ∷ []) size = omega arith
value_of_four (a ∷ b ∷ c ∷ d ∷ e ∷ bs) size = absurd (omega arith)

-- an array that a slice was taken as
pub whole_chunk : {E : Type 0} (xs ys : List ℕ) (n : ℕ) (r : Result (List ℕ) E) → MatchResult r (λ y. IsWholeChunk xs y n) (λ _. length xs ≢ n) →
    Some ys ≡ result_ok r → (length xs ≡ n) × (ys ≡ xs)
whole_chunk xs ys n (Ok y) is got = (is.long, cc (is.same, got))
whole_chunk xs ys n (Err e) is got = absurd (none-some ys (sym got))
