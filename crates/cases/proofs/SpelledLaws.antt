-- Bytes and the digits that spell them. Assumes nothing.
use Rattle.std.proofs.Common.{◌≡◌, ℕ, ◌+◌, ◌*◌, ◌/◌, ◌%◌, ◌<◌, ◌≤◌, List, [], ◌∷◌, ◌++◌, length, get_or, drop, sym, refl, ap, ◌∙◌, append_assoc, append-nil, arith}
use Rattle.cases.specs.Digits.{digit_of, spelled}

pub spelled_byte : (h l high low : ℕ) → l < 16 → digit_of h ≡ high → digit_of l ≡ low → spelled ((h * 16 + l) ∷ []) ≡ high ∷ low ∷ []
unfolding spelled
spelled_byte h l high low small first second =
    let q : (h * 16 + l) / 16 ≡ h = omega arith in
    let r : (h * 16 + l) % 16 ≡ l = omega arith in
    rw (q, r, first, second) refl

spelled-more : (bs : List ℕ) (b : ℕ) → spelled (bs ++ b ∷ []) ≡ spelled bs ++ spelled (b ∷ [])
unfolding spelled
spelled-more [] b = refl
spelled-more (x ∷ bs) b = ap (λ ds. digit_of (x / 16) ∷ digit_of (x % 16) ∷ ds) (spelled-more bs b)

two_first : (rest : List ℕ) → 2 ≤ length rest → rest ≡ get_or rest 0 0 ∷ get_or rest 1 0 ∷ drop 2 rest
two_first [] long = absurd (omega arith)
two_first (x ∷ []) long = absurd (omega arith)
two_first (x ∷ y ∷ rest) long = refl

-- two digits more are spelled
pub spelled_on : (bs rest whole : List ℕ) (b : ℕ) → 2 ≤ length rest → spelled (b ∷ []) ≡ get_or rest 0 0 ∷ get_or rest 1 0 ∷ [] →
    spelled bs ++ rest ≡ whole → spelled (bs ++ b ∷ []) ++ drop 2 rest ≡ whole
spelled_on bs rest whole b long is all =
    ap (λ ds. ds ++ drop 2 rest) (spelled-more bs b ∙ ap (λ ds. spelled bs ++ ds) is)
    ∙ append_assoc (spelled bs) (get_or rest 0 0 ∷ get_or rest 1 0 ∷ []) (drop 2 rest)
    ∙ ap (λ ds. spelled bs ++ ds) (sym (two_first rest long)) ∙ all

pub spelled_all : (bs rest whole : List ℕ) → length rest ≤ 0 → spelled bs ++ rest ≡ whole → spelled bs ≡ whole
spelled_all bs [] whole none all = sym (append-nil (spelled bs)) ∙ all
spelled_all bs (x ∷ rest) whole none all = absurd (omega arith)
