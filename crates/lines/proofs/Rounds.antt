-- What a push and a drop do to what waits. Assumes nothing.
use Rattle.std.proofs.Common.{◌≡◌, ℕ, zero, suc, ◌+◌, ◌-◌, ◌<◌, ◌≤◌, List, [], ◌∷◌, ◌++◌, length, get_or, take, drop, set, Some, sym, refl, ap, ◌∙◌, inl, inr, add-one, arith}
use lib.Seq.{take-append-add}
use Rattle.std.proofs.lemmas.List.{length-drop, length-set, append_assoc, take-append-le, take_more_set, drop-set-add, drop-set-lt, drop_all}
use Rattle.std.proofs.lemmas.Bool.{cases_lt, lt-ltb, le-ltb}
use Rattle.lines.specs.Lines.{waiting, head_of, tail_of, place_after}

-- the first of what begins at a place, and the rest of it
head_drop : {X : Type 0} (xs ys : List X) (i n : ℕ) (d : X) → i < length xs → head_of (take (suc n) (drop i xs ++ ys)) ≡ Some (get_or xs i d)
head_drop [] ys i n d within = absurd (omega arith)
head_drop (x ∷ xs) ys zero n d within = refl
head_drop (x ∷ xs) ys (suc i) n d within = head_drop xs ys i n d (omega arith)

tail_drop : {X : Type 0} (xs ys : List X) (i n : ℕ) → i < length xs → tail_of (take (suc n) (drop i xs ++ ys)) ≡ take n (drop (suc i) xs ++ ys)
tail_drop [] ys i n within = absurd (omega arith)
tail_drop (x ∷ xs) ys zero n within = refl
tail_drop (x ∷ xs) ys (suc i) n within = tail_drop xs ys i n (omega arith)

module _ {X : Type 0} (cells : List X) (first : ℕ) (within : first < length cells) where
  -- one more, before the end of the cells and after it
  before_end : (count : ℕ) (value : X) → count < length cells - first →
      waiting (set cells (first + count) value) first (count + 1) ≡ waiting cells first count ++ value ∷ []
  before_end count value room =
      let rest : length (drop first cells) ≡ length cells - first = length-drop first cells in
      let short : count < length (drop first cells) = omega arith in
      let some : count ≤ length (drop first cells) = omega arith in
      let more : count + 1 ≤ length (set (drop first cells) count value) = omega (arith, length-set (drop first cells) count value) in
      rw (
        drop-set-add first cells count value,
        take-append-le (count + 1) (set (drop first cells) count value) (set cells (first + count) value) more,
        take-append-le count (drop first cells) cells some,
      )
      (take_more_set (drop first cells) count value short)

  past_end : (count : ℕ) (value : X) → length cells - first ≤ count → count < length cells →
      waiting (set cells (count - (length cells - first)) value) first (count + 1) ≡ waiting cells first count ++ value ∷ []
  past_end count value round room =
      let place : ℕ = count - (length cells - first) in
      let rest : length (drop first cells) ≡ length cells - first = length-drop first cells in
      let low : place < first = omega arith in
      let inside : place < length cells = omega arith in
      let all : count ≡ length (drop first cells) + place = omega arith in
      let more : count + 1 ≡ length (drop first cells) + (place + 1) = omega arith in
      let after : waiting (set cells place value) first (count + 1) ≡ drop first cells ++ (take place cells ++ value ∷ []) =
      ap (λ d. take (count + 1) (d ++ set cells place value)) (drop-set-lt first cells place value low) ∙
      ap (λ n. take n (drop first cells ++ set cells place value)) more ∙
      take-append-add (drop first cells) (set cells place value) (place + 1) ∙
      ap (λ t. drop first cells ++ t) (take_more_set cells place value inside) in
      let now : waiting cells first count ≡ drop first cells ++ take place cells =
      ap (λ n. take n (drop first cells ++ cells)) all ∙ take-append-add (drop first cells) cells place in
      after ∙ sym (append_assoc (drop first cells) (take place cells) (value ∷ [])) ∙ ap (λ w. w ++ value ∷ []) (sym now)

  -- what waits after a push is what waited, and then the value
  pub push_waits : (count : ℕ) (value : X) → count < length cells →
      waiting (set cells (place_after (length cells) first count) value) first (count + 1) ≡ waiting cells first count ++ value ∷ []
  push_waits count value room =
      elim (cases_lt count (length cells - first)) [
        | inl before ↦ rw (lt-ltb count (length cells - first) before) (before_end count value before)
        | inr round ↦ rw (le-ltb count (length cells - first) round) (past_end count value round room)
      ]

  -- the first of what waits stands where the line begins
  pub first-waits : (count : ℕ) (d : X) → head_of (waiting cells first (suc count)) ≡ Some (get_or cells first d)
  first-waits count d = head_drop cells cells first count d within

  -- the rest of it goes on at the next place
  round-again : (count : ℕ) → count ≤ length cells → length cells - first ≤ 1 →
      take count (drop (1 - (length cells - first)) cells ++ cells) ≡ take count (drop (first + 1) cells ++ cells)
  round-again count few last =
      let begin : 1 - (length cells - first) ≡ 0 = omega arith in
      let past : length cells ≤ first + 1 = omega arith in
      rw (begin, drop_all (first + 1) cells past) (take-append-le count cells cells few)

  pub drop-waits : (count : ℕ) → count ≤ length cells →
      waiting cells (place_after (length cells) first 1) count ≡ tail_of (waiting cells first (suc count))
  drop-waits count few =
      let next : take count (drop (first + 1) cells ++ cells) ≡ tail_of (waiting cells first (suc count)) =
      rw add-one (sym (tail_drop cells cells first count within)) in
      elim (cases_lt 1 (length cells - first)) [
        | inl before ↦ rw (lt-ltb 1 (length cells - first) before) next
        | inr round ↦ rw (le-ltb 1 (length cells - first) round) (round-again count few round ∙ next)
      ]
