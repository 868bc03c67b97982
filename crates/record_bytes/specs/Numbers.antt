-- Numbers in bytes, high byte first. Assumes nothing.
use Rattle.std.specs.Prelude.{ℕ, zero, suc, ◌+◌, ◌*◌, ◌/◌, ◌%◌, ◌^◌, ◌<◌, Bool, cond, ◌&&◌, List, [], ◌∷◌, length, take, ◌==◌, nat_le}
use Rattle.record_bytes.specs.Reading.{Cursor, Outcome, read, fault, ahead, and_then, end_of}

-- what fits a byte
abbrev pub IsByte : ℕ → Type 0
IsByte b = b < 256

-- the number that bytes stand for
unfoldable pub value : List ℕ → ℕ
value [] = 0
value (b ∷ bs) = b * 256 ^ length bs + value bs

-- the k bytes of a number
unfoldable pub bytes_of : ℕ → ℕ → List ℕ
bytes_of zero n = []
bytes_of (suc k) n = n / 256 ^ k ∷ bytes_of k (n % 256 ^ k)

-- A number of k bytes. Where some are missing the fault is 1, at the first that is.
unfoldable pub number : ℕ → Cursor → Outcome ℕ
number k c = cond (nat_le k (length c.rest)) (read (value (take k c.rest)) (ahead k c)) (fault 1 (end_of c))

-- A number of k bytes that is held to a test. Where it fails, the fault stands at the number's first byte.
abbrev pub tested : ℕ → (ℕ → Bool) → ℕ → Cursor → Outcome ℕ
tested k good code c = and_then (number k c) (λ n after. cond (good n) (read n after) (fault code c.at))

-- A number of k bytes from low to high. Any other is fault 2.
unfoldable pub ranged : ℕ → ℕ → ℕ → Cursor → Outcome ℕ
ranged k low high = tested k (λ n. nat_le low n && nat_le n high) 2

-- The byte that says of which kind the record is. Any other is fault 1.
unfoldable pub kind_byte : ℕ → Cursor → Outcome ℕ
kind_byte k = tested 1 (λ n. n == k) 1
