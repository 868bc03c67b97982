-- What is known of the parts where a whole was read. Assumes nothing.
use Rattle.std.proofs.Common.{◌≡◌, ℕ, zero, suc, ◌≤◌, Bool, true, false, cond, ◌&&◌, eqb, leb, List, [], ◌∷◌, length, refl, ap, subst, arith}
use Rattle.std.proofs.lemmas.Bool.{eqb-true, leb-true, and_parts}
use Rattle.record_bytes.specs.Reading.{Cursor, Outcome, read, fault, accepted, refused, and_then, several, closed}
use Rattle.record_bytes.specs.Numbers.{number, ranged}
use Rattle.std.specs.List.{AllByRecursion as Each}

pub same_value : {A : Type 0} {v w : A} {c d : Cursor} → read v c ≡ read w d → v ≡ w
same_value e = cc

pub same_place : {A : Type 0} {v w : A} {c d : Cursor} → read v c ≡ read w d → c ≡ d
same_place e = cc

-- where two parts were read, each was, the second where the first ends
pub both_read : {A B : Type 0} (o : Outcome A) (next : A → Cursor → Outcome B) (w : B) (after : Cursor) →
    and_then o next ≡ read w after → (v : A) × (c : Cursor) × (o ≡ read v c) × (next v c ≡ read w after)
both_read (read v c) next w after e = (v, c, refl, e)
both_read (fault n p) next w after e = let z : ◌≡◌ {A = ℕ} 0 1 = cc in absurd (omega arith)

-- a value behind a test was read where the test passed
pub test_passed : {A : Type 0} (b : Bool) (v w : A) (c after : Cursor) (n p : ℕ) →
    cond b (read v c) (fault n p) ≡ read w after → (b ≡ true) × (v ≡ w) × (c ≡ after)
test_passed true v w c after n p e = (refl, cc, cc)
test_passed false v w c after n p e = let z : ◌≡◌ {A = ℕ} 0 1 = cc in absurd (omega arith)

-- a record that is accepted was read to its end, and was not cut
pub closed-accepted : {A : Type 0} (whole : Bool) (o : Outcome A) (v : A) →
    closed whole o ≡ accepted v → (c : Cursor) × (o ≡ read v c) × (length c.rest ≡ 0) × (whole ≡ true)
closed-accepted whole (fault n p) v e = let z : ◌≡◌ {A = ℕ} 0 1 = cc in absurd (omega arith)
closed-accepted false (read w c) v e = let z : ◌≡◌ {A = ℕ} 0 1 = cc in absurd (omega arith)
closed-accepted true (read w c) v e = ends (eqb (length c.rest) 0) refl e
  where
    ends : (b : Bool) → eqb (length c.rest) 0 ≡ b → cond b (accepted w) (refused 1 c.at) ≡ accepted v →
        (d : Cursor) × (read w c ≡ read v d) × (length d.rest ≡ 0) × (true ≡ true)
    ends true is got = (c, cc, eqb-true (length c.rest) 0 is, refl)
    ends false is got = let z : ◌≡◌ {A = ℕ} 0 1 = cc in absurd (omega arith)

-- a number that was read is within its range
pub ranged_bounds : (k low high n : ℕ) (c after : Cursor) → ranged k low high c ≡ read n after → (low ≤ n) × (n ≤ high)
unfolding ranged
ranged_bounds k low high n c after e =
    let got = both_read (number k c) _ n after e in
    let passed = test_passed (leb low got.0 && leb got.0 high) got.0 n got.1 after 2 _ got.3 in
    let inside = and_parts (leb low got.0) (leb got.0 high) passed.0 in
    let same = passed.1 in
    (omega (arith, leb-true low got.0 inside.0), omega (arith, leb-true got.0 high inside.1))

-- parts of one kind are as many as were asked for, and what holds of each part that is read holds of all
pub several_all : {A : Type 0} (P : A → Type 0) (one : Cursor → Outcome A) →
    ((v : A) (c after : Cursor) → one c ≡ read v after → P v) →
    (n : ℕ) (vs : List A) (c after : Cursor) → several n one c ≡ read vs after → (length vs ≡ n) × Each P vs
unfolding several
several_all {A = A} P one each zero vs c after e =
    let none : [] ≡ vs = cc in
    rw (← none) (refl, tt)
several_all {A = A} P one each (suc n) vs c after e =
    let first = both_read (one c) _ vs after e in
    let second = both_read (several n one first.1) _ vs after first.3 in
    let is : first.0 ∷ second.0 ≡ vs = cc second.3 in
    let tail = several_all P one each n second.0 first.1 second.1 second.2 in
    let Q : List A → Type 0 = λ ws. (length ws ≡ suc n) × Each P ws in
    subst Q is (ap suc tail.0, (each first.0 c first.1 first.2, tail.1))
