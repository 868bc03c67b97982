-- What stays in front. Assumes nothing.
use Rattle.std.proofs.Common.{◌≡◌, ℕ, ◌<◌, ◌≤◌, zero, suc, Ok, Err, Result, List, [], ◌∷◌, ◌++◌, length, take, drop, get_or, sym, refl, ap, ◌∙◌, append_assoc, arith}
use Rattle.std.specs.Prelude.{OnErr}
use Rattle.std.specs.List.{flat_map}
use Rattle.std.proofs.lemmas.List.{length-take, take-append-le, take_at}
use Rattle.std.proofs.lemmas.Grind.{common_steps}

pub shorter_front : (xs ys zs : List ℕ) → take (length (xs ++ ys)) zs ≡ xs ++ ys → take (length xs) zs ≡ xs
shorter_front [] ys zs front = refl
shorter_front (x ∷ xs) ys [] front = grind (arith, common_steps)
shorter_front (x ∷ xs) ys (z ∷ zs) front = grind (arith, common_steps, shorter_front xs ys zs)

pub on_err : {A E : Type 0} (r : Result A E) (P : Type 0) → P → OnErr r P
on_err (Ok v) P is = tt
on_err (Err e) P is = is

-- What has begun of some bytes behind old ones: where new is what is there, and what is put first is put whole, or begun,
-- or not there at all.
module _ (old b rest new : List ℕ) where
  pub begun_after : (mid : List ℕ) → mid ≡ old ++ b → new ≡ take (length new) (mid ++ rest) → new ≡ take (length new) (old ++ (b ++ rest))
  begun_after mid put is = is ∙ ap (λ xs. take (length new) xs) (ap (λ xs. xs ++ rest) put ∙ append_assoc old b rest)

  pub begun_first : new ≡ take (length new) (old ++ b) → new ≡ take (length new) (old ++ (b ++ rest))
  begun_first is =
      let few : length new ≤ length (old ++ b) = omega (arith, ap length is, length-take (length new) (old ++ b)) in
      is ∙ sym (take-append-le (length new) (old ++ b) rest few) ∙ ap (λ xs. take (length new) xs) (append_assoc old b rest)

pub begun_not : (old b new : List ℕ) → new ≡ old → new ≡ take (length new) (old ++ b)
begun_not old b new is = rw is (sym (take_at old b (length old) refl))

-- the bytes of values are those of the first ones, of the next, and of the others
pub split_values : {A : Type 0} (f : A → List ℕ) (values : List A) (i : ℕ) (d : A) → i < length values →
    flat_map f (take i values) ++ (f (get_or values i d) ++ flat_map f (drop (suc i) values)) ≡ flat_map f values
split_values f [] i d there = absurd (omega arith)
split_values f (v ∷ values) zero d there = refl
split_values f (v ∷ values) (suc i) d there =
    append_assoc (f v) (flat_map f (take i values)) _ ∙ ap (λ bs. f v ++ bs) (split_values f values i d (omega arith))
