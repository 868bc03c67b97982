-- Reading what was written gives the number, and a number that is read was written so. Assumes nothing.
use Rattle.std.proofs.Common.{◌≡◌, ℕ, ◌+◌, ◌^◌, ◌<◌, ◌≤◌, Bool, true, ◌&&◌, eqb, leb, List, [], ◌++◌, length, take, sym, refl, ap, ◌∙◌, append_assoc, add-zero, arith, length-append, take-append-drop}
use Rattle.std.specs.List.{AllByRecursion as Each}
use Rattle.std.proofs.lemmas.List.{take_at, drop_at, length-take-le}
use Rattle.std.proofs.ByRecursion.{All-take, All-drop}
use Rattle.std.proofs.lemmas.Bool.{le-leb, leb-true, eq-eqb, eqb-true, and_from, and_parts}
use Rattle.record_bytes.specs.Reading.{Cursor, read, ahead}
use Rattle.record_bytes.specs.Numbers.{number, tested, ranged, kind_byte, value, bytes_of, IsByte}
use Rattle.record_bytes.proofs.Sequence.{both_read, test_passed}
use Rattle.record_bytes.proofs.Digits.{length-bytes_of, value-bytes_of, bytes_of-value, value-below}

pub number_written : (k n at : ℕ) (rest : List ℕ) → n < 256 ^ k →
    number k (record { at = at; rest = bytes_of k n ++ rest }) ≡ read n (record { at = at + k; rest = rest })
unfolding number
number_written k n at rest fits =
    let long = length-append (bytes_of k n) rest in
    let size = length-bytes_of k n in
    let enough : k ≤ length (bytes_of k n ++ rest) = omega arith in
    rw (le-leb k _ enough, take_at (bytes_of k n) rest k size, drop_at (bytes_of k n) rest k size, value-bytes_of k n fits) refl

-- what reading a number tells of the bytes: they are its bytes, and then the rest
pub record Told (c after : Cursor) (bytes : List ℕ) : Type 0 where
  pub bytes_are : c.rest ≡ bytes ++ after.rest
  pub onward : after.at ≡ c.at + length bytes
  pub left : Each IsByte after.rest

-- one part behind another
pub told_then : (c mid after : Cursor) (a b : List ℕ) → Told c mid a → Told mid after b → Told c after (a ++ b)
told_then c mid after a b first second =
    record {
      bytes_are = first.bytes_are ∙ ap (λ xs. a ++ xs) second.bytes_are ∙ sym (append_assoc a b after.rest);
      onward = rw (length-append a b) (omega (arith, first.onward, second.onward));
      left = second.left;
    }

-- no bytes at all
pub told_none : (c : Cursor) → Each IsByte c.rest → Told c c []
told_none c bytes = record { bytes_are = refl; onward = sym (add-zero c.at); left = bytes }

pub number_told : (k n : ℕ) (c after : Cursor) → number k c ≡ read n after → Each IsByte c.rest →
    (n < 256 ^ k) × Told c after (bytes_of k n)
unfolding number
number_told k n c after e bytes =
    let passed = test_passed (leb k (length c.rest)) (value (take k c.rest)) n (ahead k c) after 1 _ e in
    let enough = leb-true k (length c.rest) passed.0 in
    let size = length-take-le k c.rest enough in
    let front = All-take IsByte k c.rest bytes in
    let are : bytes_of k n ≡ take k c.rest =
    rw (← passed.1) (rw size at (bytes_of-value (take k c.rest) front)) in
    let below : n < 256 ^ k = rw (← passed.1) (rw size at (value-below (take k c.rest) front)) in (
      below,
      record {
        bytes_are = rw (are, ← passed.2) (sym (take-append-drop k c.rest));
        onward = rw (← passed.2, length-bytes_of k n) refl;
        left = rw (← passed.2) (All-drop IsByte k c.rest bytes);
      },
    )

module _ (k : ℕ) (good : ℕ → Bool) (code : ℕ) where
  pub tested_written : (n at : ℕ) (rest : List ℕ) → n < 256 ^ k → good n ≡ true →
      tested k good code (record { at = at; rest = bytes_of k n ++ rest }) ≡ read n (record { at = at + k; rest = rest })
  tested_written n at rest fits passed = rw (number_written k n at rest fits, passed) refl

  pub tested_told : (n : ℕ) (c after : Cursor) → tested k good code c ≡ read n after → Each IsByte c.rest →
      (good n ≡ true) × (n < 256 ^ k) × Told c after (bytes_of k n)
  tested_told n c after e bytes =
      let got = both_read (number k c) _ n after e in
      let passed = test_passed (good got.0) got.0 n got.1 after code _ got.3 in
      let is : number k c ≡ read n after = cc (got.2, passed.1, passed.2) in
      let told = number_told k n c after is bytes in
      (ap good (sym passed.1) ∙ passed.0, told.0, told.1)

pub ranged_written : (k low high n at : ℕ) (rest : List ℕ) → n < 256 ^ k → low ≤ n → n ≤ high →
    ranged k low high (record { at = at; rest = bytes_of k n ++ rest }) ≡ read n (record { at = at + k; rest = rest })
unfolding ranged
ranged_written k low high n at rest fits above below =
    tested_written k _ 2 n at rest fits (and_from (leb low n) (leb n high) (le-leb low n above) (le-leb n high below))

pub ranged_told : (k low high n : ℕ) (c after : Cursor) → ranged k low high c ≡ read n after → Each IsByte c.rest →
    (low ≤ n) × (n ≤ high) × (n < 256 ^ k) × Told c after (bytes_of k n)
unfolding ranged
ranged_told k low high n c after e bytes =
    let told = tested_told k (λ x. leb low x && leb x high) 2 n c after e bytes in
    let inside = and_parts (leb low n) (leb n high) told.0 in
    (leb-true low n inside.0, leb-true n high inside.1, told.1, told.2)

pub kind_written : (k at : ℕ) (rest : List ℕ) → k < 256 →
    kind_byte k (record { at = at; rest = bytes_of 1 k ++ rest }) ≡ read k (record { at = at + 1; rest = rest })
unfolding kind_byte
kind_written k at rest fits = tested_written 1 _ 1 k at rest fits (eq-eqb k k refl)

pub kind_told : (k n : ℕ) (c after : Cursor) → kind_byte k c ≡ read n after → Each IsByte c.rest →
    (n ≡ k) × Told c after (bytes_of 1 k)
unfolding kind_byte
kind_told k n c after e bytes =
    let told = tested_told 1 (λ x. eqb x k) 1 n c after e bytes in
    let same = eqb-true n k told.0 in
    (same, rw (← same) told.2)
