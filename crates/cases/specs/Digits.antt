-- How a case is written. Assumes nothing.
use Rattle.std.specs.Prelude.{ℕ, ◌+◌, ◌/◌, ◌%◌, cond, List, [], ◌∷◌, nat_lt}

-- the hexadecimal digit of a number below 16: 0 to 9, then a to f
abbrev pub digit_of : ℕ → ℕ
digit_of n = cond (nat_lt n 10) (48 + n) (87 + n)

-- two digits for each byte, the high one first
unfoldable pub spelled : List ℕ → List ℕ
spelled [] = []
spelled (b ∷ bs) = digit_of (b / 16) ∷ digit_of (b % 16) ∷ spelled bs
