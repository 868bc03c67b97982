-- Reading takes bytes off the front and looks at no others: where the bytes end before, the first missing one is the fault.
-- Assumes nothing.
use Rattle.std.proofs.Common.{◌≡◌, ℕ, ◌+◌, ◌-◌, ◌<◌, ◌≤◌, Bool, true, ◌&&◌, eqb, leb, List, length, take, drop, sym, refl, ap, ◌∙◌, ap₂, inl, inr, add-zero, add_assoc, zero-add, arith, length-drop}
use Rattle.std.proofs.lemmas.List.{length-take-le, length-take, drop-drop, drop-take, take-take}
use Rattle.std.proofs.lemmas.Bool.{le-leb, lt-leb, leb-true, cases_lt}
use Rattle.record_bytes.specs.Reading.{Cursor, Outcome, read, fault, accepted, refused, ahead, and_then, closed, start}
use Rattle.record_bytes.specs.Numbers.{number, tested, ranged, kind_byte, value}
use Rattle.record_bytes.proofs.Sequence.{both_read, test_passed, closed-accepted}

-- the same place, with only m bytes left
abbrev pub cut_to : ℕ → Cursor → Cursor
cut_to m c = record { at = c.at; rest = take m c.rest }

-- what reading at c says where k bytes were taken
pub record Step {A : Type 0} (p : Cursor → Outcome A) (c after : Cursor) (v : A) (k : ℕ) : Type 0 where
  pub enough : k ≤ length c.rest
  pub onward : after ≡ ahead k c
  pub longer : (m : ℕ) → k ≤ m → p (cut_to m c) ≡ read v (cut_to (m - k) after)
  pub shorter : (m : ℕ) → m < k → p (cut_to m c) ≡ fault 1 (c.at + m)

abbrev pub Steady : {A : Type 0} → (Cursor → Outcome A) → Type 0
Steady {A} p = (c after : Cursor) (v : A) → p c ≡ read v after → (k : ℕ) × Step p c after v k

-- two parts, one after the other
pub steady_then : {A B : Type 0} (p : Cursor → Outcome A) (next : A → Cursor → Outcome B) →
    Steady p → ((v : A) → Steady (next v)) → Steady (λ c. and_then (p c) next)
steady_then {A = A} p next first second c after w e =
    let got = both_read (p c) next w after e in
    let one = first c got.1 got.0 got.2 in
    let two = second got.0 got.1 after w got.3 in
    joined got.0 got.1 one.0 two.0 one.1 two.1
  where
    joined : (v : A) (mid : Cursor) (j k : ℕ) → Step p c mid v j → Step (next v) mid after w k →
        (n : ℕ) × Step (λ d. and_then (p d) next) c after w n
    joined v mid j k one two =
        let len : length mid.rest ≡ length c.rest - j = rw one.onward (length-drop j c.rest) in
        let here : mid.at ≡ c.at + j = rw one.onward refl in (
          j + k,
          record {
            enough = omega (arith, one.enough, two.enough);
            onward = two.onward ∙ rw (one.onward, add_assoc c.at j k, drop-drop k j c.rest) refl;
            longer = λ m h.
                let e1 : m - (j + k) ≡ (m - j) - k = omega arith in
                rw (one.longer m (omega arith), e1) (two.longer (m - j) (omega arith));
            shorter = λ m h.
                elim (cases_lt m j) [
                  | inl few ↦ rw (one.shorter m few) refl
                  | inr many ↦
                      rw (one.longer m many)
                      (two.shorter (m - j) (omega arith) ∙ ap (λ n. fault 1 n) (omega arith))
                ];
          },
        )

-- a value that costs no bytes
pub steady_value : {A : Type 0} (v : A) → Steady (λ c. read v c)
steady_value v c after w e =
    let same : c ≡ after = cc in
    let is : v ≡ w = cc in
    let here : c ≡ ahead 0 c = rw (add-zero c.at) refl in (
      0,
      record {
        enough = omega arith;
        onward = sym same ∙ here;
        longer = λ m h. let e : m - 0 ≡ m = omega arith in rw e (ap₂ (λ x d. read x (cut_to m d)) is same);
        shorter = λ m h. absurd (omega arith);
      },
    )

drop_of_take : (k m : ℕ) (xs : List ℕ) → k ≤ m → drop k (take m xs) ≡ take (m - k) (drop k xs)
drop_of_take k m xs h =
    let e : m ≡ k + (m - k) = omega arith in
    ap (λ n. drop k (take n xs)) e ∙ drop-take k (m - k) xs

pub steady_number : (k : ℕ) → Steady (number k)
unfolding number
steady_number k c after n e =
    let passed = test_passed (leb k (length c.rest)) (value (take k c.rest)) n (ahead k c) after 1 _ e in
    let enough = leb-true k (length c.rest) passed.0 in (
      k,
      record {
        enough = enough;
        onward = sym passed.2;
        longer = λ m h.
            let kept : k ≤ length (take m c.rest) = rw (length-take m c.rest) (omega arith) in
            rw (le-leb k _ kept, take-take k m c.rest h, drop_of_take k m c.rest h)
            (ap₂ (λ x d. read x (cut_to (m - k) d)) passed.1 passed.2);
        shorter = λ m h.
            let size : length (take m c.rest) ≡ m = length-take-le m c.rest (omega arith) in
            rw (size, lt-leb k m h) refl;
      },
    )

-- a number that is held to a test
pub steady_tested : (k : ℕ) (good : ℕ → Bool) (code : ℕ) → Steady (tested k good code)
steady_tested k good code c after w e =
    let got = both_read (number k c) _ w after e in
    let passed = test_passed (good got.0) got.0 w got.1 after code _ got.3 in
    let is : number k c ≡ read w after = cc (got.2, passed.1, passed.2) in
    let test : good w ≡ true = ap good (sym passed.1) ∙ passed.0 in
    let one = steady_number k c after w is in (
      one.0,
      record {
        enough = one.1.enough;
        onward = one.1.onward;
        longer = λ m h. rw (one.1.longer m h, test) refl;
        shorter = λ m h. rw (one.1.shorter m h) refl;
      },
    )

pub steady_ranged : (k low high : ℕ) → Steady (ranged k low high)
unfolding ranged
steady_ranged k low high = steady_tested k (λ n. leb low n && leb n high) 2

pub steady_kind : (k : ℕ) → Steady (kind_byte k)
unfolding kind_byte
steady_kind k = steady_tested 1 (λ n. eqb n k) 1

-- a record that is accepted is refused when it is cut, where its first missing byte would stand
pub cut-refused : {A : Type 0} (p : Cursor → Outcome A) (bs : List ℕ) (v : A) (whole : Bool) → Steady p →
    closed whole (p (start bs)) ≡ accepted v → (m : ℕ) → m < length bs → closed true (p (start (take m bs))) ≡ refused 1 m
cut-refused p bs v whole steady e m short =
    let got = closed-accepted whole (p (start bs)) v e in
    let step = steady (start bs) got.0 v got.1 in
    let left : length (drop step.0 bs) ≡ 0 = ap (λ (d : Cursor). length d.rest) (sym step.1.onward) ∙ got.2 in
    let size = length-drop step.0 bs in
    let few : m < step.0 = omega arith in
    rw (step.1.shorter m few, zero-add m) refl
