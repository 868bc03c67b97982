-- A reader's step is the definition's: what is taken off the front, and what is missing. Assumes nothing.
use Rattle.std.proofs.Common.{◌≡◌, ℕ, ◌+◌, ◌<◌, ◌≤◌, Bool, true, false, leb, ◌⊎◌, ◌≢◌, ◌==◌, if◌then◌else◌, Some, None, Option, option_map, List, length, take, drop, refl, inl, inr}
use Rattle.std.proofs.lemmas.List.{length-take-le}
use Rattle.std.proofs.lemmas.Option.{none-some}
use Rattle.std.proofs.lemmas.Bool.{le-leb, lt-leb, and_from, and_left, and_right, eq-eqb, ne_eqb}
use Rattle.record_bytes.specs.Reading.{Cursor, read, fault}
use Rattle.record_bytes.specs.Answers.{taken}
use Rattle.record_bytes.specs.Numbers.{number, tested, ranged, kind_byte, value}

taken_is : {A : Type 0} (model : A → ℕ) (n : Option A) (v : ℕ) (c : Cursor) → option_map model n ≡ Some v → taken model n c ≡ read v c
taken_is model None v c is = absurd (none-some v is)
taken_is model (Some a) v c is = cc

-- the front of xs as a number, and what is behind it
pub taking : {A : Type 0} (model : A → ℕ) (k at : ℕ) (n : Option A) (front xs ys : List ℕ) → k ≤ length xs →
    option_map model n ≡ (if length front == k then Some (value front) else None) → front ≡ take k xs → ys ≡ drop k xs →
    taken model n (record { at = at + k; rest = ys }) ≡ number k (record { at = at; rest = xs })
unfolding number
taking model k at n front xs ys enough is front-is left =
    let size : length front ≡ k = rw front-is (length-take-le k xs enough) in
    let whole = rw (eq-eqb _ _ size, front-is) at is in
    rw (taken_is model n _ _ whole, left, le-leb k (length xs) enough) refl

pub missing : (k at : ℕ) (xs : List ℕ) → length xs < k → fault 1 (at + length xs) ≡ number k (record { at = at; rest = xs })
unfolding number
missing k at xs few = rw (lt-leb k (length xs) few)

module _ (k : ℕ) (good : ℕ → Bool) (code : ℕ) (c : Cursor) where
  tested_missing : (place : ℕ) → fault 1 place ≡ number k c → fault 1 place ≡ tested k good code c
  tested_missing place is = rw (← is) refl

  tested-passed : (n : ℕ) (after : Cursor) → read n after ≡ number k c → good n ≡ true → read n after ≡ tested k good code c
  tested-passed n after is passed = rw (← is, passed) refl

  tested_failed : (n : ℕ) (after : Cursor) → read n after ≡ number k c → good n ≡ false → fault code c.at ≡ tested k good code c
  tested_failed n after is failed = rw (← is, failed) refl

pub ranged_missing : (k low high place : ℕ) (c : Cursor) → fault 1 place ≡ number k c → fault 1 place ≡ ranged k low high c
unfolding ranged
ranged_missing k low high place c is = tested_missing k _ 2 c place is

pub ranged_inside : (k low high n : ℕ) (c after : Cursor) → read n after ≡ number k c → low ≤ n → n ≤ high →
    read n after ≡ ranged k low high c
unfolding ranged
ranged_inside k low high n c after is above below =
    tested-passed k _ 2 c n after is (and_from (leb low n) (leb n high) (le-leb low n above) (le-leb n high below))

pub ranged_outside : (k low high n : ℕ) (c after : Cursor) → read n after ≡ number k c → (n < low) ⊎ (high < n) →
    fault 2 c.at ≡ ranged k low high c
unfolding ranged
ranged_outside k low high n c after is (inl below) =
    tested_failed k _ 2 c n after is (and_left (leb low n) (leb n high) (lt-leb low n below))
ranged_outside k low high n c after is (inr above) =
    tested_failed k _ 2 c n after is (and_right (leb low n) (leb n high) (lt-leb n high above))

pub kind_missing : (wanted place : ℕ) (c : Cursor) → fault 1 place ≡ number 1 c → fault 1 place ≡ kind_byte wanted c
unfolding kind_byte
kind_missing wanted place c is = tested_missing 1 _ 1 c place is

pub kind_found : (wanted n : ℕ) (c after : Cursor) → read n after ≡ number 1 c → n ≡ wanted → read n after ≡ kind_byte wanted c
unfolding kind_byte
kind_found wanted n c after is same = tested-passed 1 _ 1 c n after is (eq-eqb n wanted same)

pub kind_differs : (wanted n : ℕ) (c after : Cursor) → read n after ≡ number 1 c → n ≢ wanted → fault 1 c.at ≡ kind_byte wanted c
unfolding kind_byte
kind_differs wanted n c after is other = tested_failed 1 _ 1 c n after is (ne_eqb n wanted other)
