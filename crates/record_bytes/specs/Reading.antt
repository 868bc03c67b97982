-- How a record is read: byte by byte, to its end or its first fault. Assumes nothing.
use Rattle.std.specs.Prelude.{ℕ, zero, suc, ◌+◌, Bool, cond, ◌&&◌, List, [], ◌∷◌, length, drop, ◌==◌}

-- where reading stands: the offset of the next byte in the record, and the bytes from there on
pub record Cursor : Type 0 where
  pub at : ℕ
  pub rest : List ℕ

-- a part that was read, and where reading goes on; or the number and the place of the first fault
pub data Outcome (A : Type 0) : Type 0 where
  read : A → Cursor → Outcome A
  fault : ℕ → ℕ → Outcome A

-- a whole record: its value, or the number and the place of its first fault
pub data Verdict (A : Type 0) : Type 0 where
  accepted : A → Verdict A
  refused : ℕ → ℕ → Verdict A

-- at the kind, which is byte 0
abbrev pub start : List ℕ → Cursor
start bytes = record { at = 0; rest = bytes }

-- k bytes further on
abbrev pub ahead : ℕ → Cursor → Cursor
ahead k c = record { at = c.at + k; rest = drop k c.rest }

-- one part after another: what comes next is read where the part ends, unless the part has a fault
abbrev pub and_then : {A B : Type 0} → Outcome A → (A → Cursor → Outcome B) → Outcome B
and_then (read v c) next = next v c
and_then (fault number place) next = fault number place

-- The same for ways to read, so that the parts of a record can be listed in their order.
infixl 10 ◌>>=◌
abbrev pub ◌>>=◌ : {A B : Type 0} → (Cursor → Outcome A) → (A → Cursor → Outcome B) → Cursor → Outcome B
◌>>=◌ first next c = and_then (first c) next

infixl 10 ◌>>◌
abbrev pub ◌>>◌ : {A B : Type 0} → (Cursor → Outcome A) → (Cursor → Outcome B) → Cursor → Outcome B
◌>>◌ first next c = and_then (first c) (λ _. next)

-- a value that is made of parts that were read
abbrev pub pure : {A : Type 0} → A → Cursor → Outcome A
pure v c = read v c

-- n parts of one kind, one after the other
unfoldable pub several : {A : Type 0} → ℕ → (Cursor → Outcome A) → Cursor → Outcome (List A)
several zero one = pure []
several (suc n) one = one >>= λ v. several n one >>= λ vs. pure (v ∷ vs)

-- where the first missing byte would stand
abbrev pub end_of : Cursor → ℕ
end_of c = c.at + length c.rest

-- A record has no bytes left over, and was not cut: else its fault is 1 where the first byte too many stands,
-- or where the next byte would stand.
abbrev pub closed : {A : Type 0} → Bool → Outcome A → Verdict A
closed whole (read v c) = cond (whole && length c.rest == 0) (accepted v) (refused 1 c.at)
closed whole (fault number place) = refused number place
