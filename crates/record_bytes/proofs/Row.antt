-- Where records begin and end. Assumes nothing.
use Rattle.std.proofs.Common.{◌≡◌, ℕ, zero, suc, ◌+◌, ◌*◌, ◌/◌, ◌%◌, ◌<◌, ◌≤◌, Bool, true, false, cond, leb, List, [], ◌∷◌, ◌++◌, length, get_or, take, drop, sym, refl, ap, ◌∙◌, subst, arith, length-append, length-drop, take-append-drop}
use Rattle.std.specs.List.{AllByRecursion as Each}
use Rattle.std.proofs.ByRecursion.{All-drop}
use Rattle.std.proofs.lemmas.List.{take_at, drop_at, length-take-le}
use Rattle.std.proofs.lemmas.Bool.{le-leb, lt-leb, leb-true, leb-false}
use Rattle.record_bytes.specs.Numbers.{value, bytes_of, IsByte}
use Rattle.record_bytes.specs.Row.{Extent, whole_record, cut_record, Next, finished, found, next_record, row_within, row, framed, IsRow, none, more, cut_inside, cut_length, OneRow}
use Rattle.record_bytes.proofs.Digits.{bytes_of_two, bytes_of-value, length-bytes_of, value-below}

size_two : (a b n : ℕ) → a * 256 + b ≡ n → value (a ∷ b ∷ []) ≡ n
unfolding value
size_two a b n e = omega arith

-- what the code finds, in the words of the definition
pub next-cut : (xs body rest : List ℕ) → 2 ≤ length xs → body ≡ drop 2 xs → rest ≡ [] →
    length (drop 2 xs) < get_or xs 0 0 * 256 + get_or xs 1 0 → found (cut_record body) rest ≡ next_record xs
next-cut [] body rest long is left few = absurd (omega arith)
next-cut (a ∷ []) body rest long is left few = absurd (omega arith)
next-cut (a ∷ b ∷ xs) body rest long is left few =
    rw (is, left, size_two a b (a * 256 + b) refl, lt-leb (a * 256 + b) (length xs) few) refl

pub next-whole : (xs body rest : List ℕ) (n : ℕ) → 2 ≤ length xs → n ≡ get_or xs 0 0 * 256 + get_or xs 1 0 → n ≤ length (drop 2 xs) →
    body ≡ take n (drop 2 xs) → rest ≡ drop n (drop 2 xs) → found (whole_record body) rest ≡ next_record xs
next-whole [] body rest n long size enough is left = absurd (omega arith)
next-whole (a ∷ []) body rest n long size enough is left = absurd (omega arith)
next-whole (a ∷ b ∷ xs) body rest n long size enough is left =
    rw (is, left, size_two a b n (sym size), le-leb n (length xs) enough) refl

row_of_nothing : (n : ℕ) → row_within n [] ≡ []
unfolding row_within
row_of_nothing zero = refl
row_of_nothing (suc n) = refl

-- a row is read as one
is_row : (n : ℕ) (bs : List ℕ) → length bs ≤ n → Each IsByte bs → IsRow bs (row_within n bs)
unfolding row_within
is_row zero [] long bytes = none
is_row zero (b ∷ bs) long bytes = absurd (omega arith)
is_row (suc n) [] long bytes = none
is_row (suc n) (a ∷ []) long bytes = rw (row_of_nothing n) (cut_length a)
is_row (suc n) (a ∷ b ∷ bs) long bytes =
    sized (value (a ∷ b ∷ [])) (bytes_of-value (a ∷ b ∷ []) two) (value-below (a ∷ b ∷ []) two)
    (is_row n (drop (value (a ∷ b ∷ [])) bs) (rw (length-drop (value (a ∷ b ∷ [])) bs) (omega arith)) (All-drop IsByte (value (a ∷ b ∷ [])) bs bytes.1.1))
    (leb (value (a ∷ b ∷ [])) (length bs)) refl
  where
    two : Each IsByte (a ∷ b ∷ [])
    two = (bytes.0, (bytes.1.0, tt))

    sized : (s : ℕ) → bytes_of 2 s ≡ a ∷ b ∷ [] → s < 65536 → IsRow (drop s bs) (row_within n (drop s bs)) →
        (t : Bool) → leb s (length bs) ≡ t →
        IsRow (a ∷ b ∷ bs) (elim (cond t (found (whole_record (take s bs)) (drop s bs)) (found (cut_record bs) [])) [ finished ↦ [] | found e rest ↦ e ∷ row_within n rest ])
    sized s head small rest true fits =
        let size : length (take s bs) ≡ s = length-take-le s bs (leb-true s (length bs) fits) in
        let are : framed (take s bs) ++ drop s bs ≡ a ∷ b ∷ bs =
        rw (size, head, take-append-drop s bs) refl in
        let P : List ℕ → Type 0 = λ xs. IsRow xs (whole_record (take s bs) ∷ row_within n (drop s bs)) in
        subst P are (more (take s bs) (drop s bs) (row_within n (drop s bs)) (omega arith) rest)
    sized s head small rest false fits =
        let P : List ℕ → Type 0 = λ xs. IsRow (xs ++ bs) (cut_record bs ∷ []) in
        rw (row_of_nothing n) (subst P head (cut_inside s bs small (leb-false s (length bs) fits)))

next-framed : (bs rest : List ℕ) → length bs < 65536 → next_record (framed bs ++ rest) ≡ found (whole_record bs) rest
next-framed bs rest small =
    let n : ℕ = length bs in
    let is : n / 256 * 256 + n % 256 ≡ n = omega arith in
    let size = size_two (n / 256) (n % 256) n is in
    let long = length-append bs rest in
    let enough : n ≤ length (bs ++ rest) = omega arith in
    rw (bytes_of_two n, size, le-leb n (length (bs ++ rest)) enough, take_at bs rest n refl, drop_at bs rest n refl) refl

next_cut_framed : (n : ℕ) (bs : List ℕ) → length bs < n → next_record (bytes_of 2 n ++ bs) ≡ found (cut_record bs) []
next_cut_framed n bs few =
    let is : n / 256 * 256 + n % 256 ≡ n = omega arith in
    let size = size_two (n / 256) (n % 256) n is in
    rw (bytes_of_two n, size, lt-leb n (length bs) few) refl

row-found : (n : ℕ) (bs rest : List ℕ) (e : Extent) → next_record bs ≡ found e rest → row_within (suc n) bs ≡ e ∷ row_within n rest
unfolding row_within
row-found n bs rest e is = rw (is, row_within) refl

-- and as no other
only_row : (n : ℕ) (bs : List ℕ) (es : List Extent) → IsRow bs es → length bs ≤ n → es ≡ row_within n bs
only_row n bs es none long = sym (row_of_nothing n)
only_row zero bs es (more b rest is small row) long =
    absurd (omega (arith, length-append (framed b) rest, length-append (bytes_of 2 (length b)) b, length-bytes_of 2 (length b)))
only_row (suc n) bs es (more b rest is small row) long =
    let size : length rest ≤ n =
    omega (arith, length-append (framed b) rest, length-append (bytes_of 2 (length b)) b, length-bytes_of 2 (length b)) in
    ap (λ xs. whole_record b ∷ xs) (only_row n rest is row size) ∙ sym (row-found n _ rest _ (next-framed b rest small))
only_row zero bs es (cut_inside m b small few) long =
    absurd (omega (arith, length-append (bytes_of 2 m) b, length-bytes_of 2 m))
only_row (suc n) bs es (cut_inside m b small few) long =
    ap (λ xs. cut_record b ∷ xs) (sym (row_of_nothing n)) ∙ sym (row-found n _ [] _ (next_cut_framed m b few))
only_row zero bs es (cut_length b) long = absurd (omega arith)
only_row (suc n) bs es (cut_length b) long =
    ap (λ xs. cut_record [] ∷ xs) (sym (row_of_nothing n)) ∙ sym (row-found n (b ∷ []) [] _ refl)

pub one_row : OneRow
one_row bs bytes =
    (is_row (length bs) bs (omega arith) bytes, λ es is. only_row (length bs) bs es is (omega arith))

-- what is left behind a record is shorter
pub next-shorter : (bs rest : List ℕ) (e : Extent) → next_record bs ≡ found e rest → length rest < length bs
next-shorter [] rest e is = let z : ◌≡◌ {A = ℕ} 0 1 = cc in absurd (omega arith)
next-shorter (a ∷ []) rest e is = let none : [] ≡ rest = cc in rw (← none) (omega arith)
next-shorter (a ∷ b ∷ bs) rest e is = sized (leb (value (a ∷ b ∷ [])) (length bs)) is
  where
    sized : (t : Bool) → cond t (found (whole_record (take (value (a ∷ b ∷ [])) bs)) (drop (value (a ∷ b ∷ [])) bs)) (found (cut_record bs) []) ≡ found e rest →
        length rest < length (a ∷ b ∷ bs)
    sized true got = let left : drop (value (a ∷ b ∷ [])) bs ≡ rest = cc in rw (← left, length-drop (value (a ∷ b ∷ [])) bs) (omega arith)
    sized false got = let none : [] ≡ rest = cc in rw (← none) (omega arith)

row-finished : (n : ℕ) (bs : List ℕ) → next_record bs ≡ finished → row_within n bs ≡ []
unfolding row_within
row-finished zero bs is = refl
row-finished (suc n) bs is = rw (is, row_within) refl

-- the records of an input do not depend on how many are allowed for
row_enough : (n m : ℕ) (bs : List ℕ) → length bs ≤ n → length bs ≤ m → row_within n bs ≡ row_within m bs
unfolding row_within
row_enough zero m [] long also = sym (row_of_nothing m)
row_enough zero m (b ∷ bs) long also = absurd (omega arith)
row_enough (suc n) zero [] long also = row_of_nothing (suc n)
row_enough (suc n) zero (b ∷ bs) long also = absurd (omega arith)
row_enough (suc n) (suc m) bs long also = onward (next_record bs) refl (row_enough n m)
  where
    onward : (x : Next) → next_record bs ≡ x → ((rest : List ℕ) → length rest ≤ n → length rest ≤ m → row_within n rest ≡ row_within m rest) →
        row_within (suc n) bs ≡ row_within (suc m) bs
    onward finished is tails = row-finished (suc n) bs is ∙ sym (row-finished (suc m) bs is)
    onward (found e rest) is tails =
        let shorter = next-shorter bs rest e is in
        row-found n bs rest e is ∙ ap (λ es. e ∷ es) (tails rest (omega arith) (omega arith)) ∙ sym (row-found m bs rest e is)

-- the records of an input are its next one, and then those of what is left
pub row_next : (bs rest : List ℕ) (e : Extent) → found e rest ≡ next_record bs → row bs ≡ e ∷ row rest
row_next bs rest e is = counted (length bs) refl
  where
    counted : (n : ℕ) → length bs ≡ n → row_within n bs ≡ e ∷ row rest
    counted zero size = let shorter = next-shorter bs rest e (sym is) in absurd (omega arith)
    counted (suc n) size =
        let shorter = next-shorter bs rest e (sym is) in
        row-found n bs rest e (sym is) ∙ ap (λ es. e ∷ es) (row_enough n (length rest) rest (omega arith) (omega arith))

pub row_end : (bs : List ℕ) → finished ≡ next_record bs → row bs ≡ []
row_end bs is = row-finished (length bs) bs (sym is)
