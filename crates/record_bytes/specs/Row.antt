-- The row of records: before each stands its length, two bytes, high byte first. Assumes nothing.
use Rattle.std.specs.Prelude.{◌≡◌, ℕ, zero, suc, ◌<◌, Bool, true, false, cond, List, [], ◌∷◌, ◌++◌, length, take, drop, nat_le}
use Rattle.std.specs.List.{AllByRecursion as Each}
use Rattle.record_bytes.specs.Numbers.{value, bytes_of, IsByte}

-- the bytes of one record, and whether they are all there or the input ended before
pub record Extent : Type 0 where
  pub bytes : List ℕ
  pub whole : Bool

abbrev pub whole_record : List ℕ → Extent
whole_record bs = record { bytes = bs; whole = true }

abbrev pub cut_record : List ℕ → Extent
cut_record bs = record { bytes = bs; whole = false }

-- the next record and what comes behind it, or nothing where the input has ended
pub data Next : Type 0 where
  finished : Next
  found : Extent → List ℕ → Next

-- Input that ends inside the length is a cut record with no bytes.
abbrev pub next_record : List ℕ → Next
next_record [] = finished
next_record (a ∷ []) = found (cut_record []) []
next_record (a ∷ b ∷ rest) =
    cond (nat_le (value (a ∷ b ∷ [])) (length rest))
    (found (whole_record (take (value (a ∷ b ∷ [])) rest)) (drop (value (a ∷ b ∷ [])) rest))
    (found (cut_record rest) [])

-- the records of an input of at most n bytes
unfoldable pub row_within : ℕ → List ℕ → List Extent
row_within zero bs = []
row_within (suc n) bs = elim (next_record bs) [ finished ↦ [] | found e rest ↦ e ∷ row_within n rest ]

-- all records of an input
abbrev pub row : List ℕ → List Extent
row bs = row_within (length bs) bs

-- a record with its length before it
abbrev pub framed : List ℕ → List ℕ
framed bs = bytes_of 2 (length bs) ++ bs

-- What a row of records is: nothing at all; or a record with its length and then a row; or, last, a record of which some
-- bytes are missing, or a length of which one is.
pub data IsRow : List ℕ → List Extent → Type 0 where
  none : IsRow [] []
  more : (bs rest : List ℕ) (es : List Extent) → length bs < 65536 → IsRow rest es → IsRow (framed bs ++ rest) (whole_record bs ∷ es)
  cut_inside : (n : ℕ) (bs : List ℕ) → n < 65536 → length bs < n → IsRow (bytes_of 2 n ++ bs) (cut_record bs ∷ [])
  cut_length : (b : ℕ) → IsRow (b ∷ []) (cut_record [] ∷ [])

-- every input is a row of records in one way, and in no other: nothing is skipped, and nothing is read twice
abbrev pub OneRow : Type 0
OneRow = (bs : List ℕ) → Each IsByte bs → IsRow bs (row bs) × ((es : List Extent) → IsRow bs es → es ≡ row bs)
