-- Sums kept in a table are the sums over the flows. Assumes nothing.
use Rattle.std.proofs.Common.{◌≡◌, ℕ, zero, suc, ◌+◌, ◌<◌, ◌≤◌, max, Bool, true, false, cond, ◌&&◌, ltb, leb, List, [], ◌∷◌, length, get_or, take, drop, set, map, fold, replicate, sum, sym, refl, ap, ◌∙◌, inl, inr, add-zero, add_assoc, zero-add, arith, length-set, Iter}
use Rattle.std.proofs.Math.Nat.{zero-max}
use Rattle.std.specs.List.{AllByRecursion as Each}
use Rattle.std.specs.Slice.Iter.{iter_rest}
use Rattle.std.proofs.iter.Yields.{fronts}
use Rattle.std.proofs.lemmas.List.{take-map}
use Rattle.std.proofs.lemmas.List.Recursion.{is_sum_by}
use Rattle.std.proofs.lemmas.Iterator.{YieldsList-from_slice}
use Rattle.std.proofs.lemmas.Iterator.Adapters.{YieldsAtMost, at_most_from_yields_List}
use Rattle.std.proofs.lemmas.Bool.{cases_lt, lt-ltb, le-ltb, le-leb, lt-leb}
use Rattle.flows.specs.Flow.{FlowModel}
use Rattle.promises.specs.declared.load.Asked.{Asked}
use Rattle.promises.specs.Promises.{over, bursts, before, long}
use Rattle.promises.specs.Loads.{LoadModel, no_load, load_with, load_of, total, largest}
use Rattle.promises.specs.Laws.{Classed}

pub total_is_sum : (xs : List ℕ) → total xs ≡ sum xs
unfolding total
total_is_sum = is_sum_by total (λ x. x) refl (λ _ _. refl)

-- a field of the first n classes, added up by a chain and by the definition
pub fields_total : (h : Asked → ℕ) (n : ℕ) (classes : List Asked) → sum (map h (take n classes)) ≡ total (take n (map h classes))
fields_total h n classes = sym (total_is_sum _) ∙ ap total (sym (take-map h n classes))

-- a chain over so many classes at most
pub few_classes : {s : Iter Asked} (n : ℕ) (classes : List Asked) → iter_rest s ≡ classes → length classes ≤ n → YieldsAtMost fronts s n
few_classes n classes seen few = at_most_from_yields_List (YieldsList-from_slice classes seen) few

-- nothing is asked at any place of an empty table
pub zeros : (n c : ℕ) → ◌≡◌ {A = ℕ} (get_or (replicate n 0) c 0) 0
zeros zero c = refl
zeros (suc n) zero = refl
zeros (suc n) (suc c) = zeros n c

-- the largest of what h gives, found from the front
pub largest_from : {X : Type 0} (h : X → ℕ) (a : ℕ) (xs : List X) → fold (λ m x. max m (h x)) a xs ≡ max a (largest (map h xs))
unfolding largest
largest_from h a [] = omega arith
largest_from h a (x ∷ xs) = omega (arith, largest_from h (max a (h x)) xs)

-- v where b holds, else nothing
abbrev pub given : Bool → ℕ → ℕ
given b v = cond b v 0

-- the first n of a table, after v was added at place k
total-set : (xs : List ℕ) (n k v : ℕ) → k < length xs → total (take n (set xs k (get_or xs k 0 + v))) ≡ total (take n xs) + given (ltb k n) v
unfolding total
total-set [] n k v h = absurd (omega arith)
total-set (x ∷ xs) zero k v h = rw (le-ltb k 0 (omega arith)) refl
total-set (x ∷ xs) (suc n) zero v h = rw (lt-ltb 0 (suc n) (omega arith)) (omega arith)
total-set (x ∷ xs) (suc n) (suc k) v h =
    rw (total-set xs n k v (omega arith))
    (elim (cases_lt k n) [
      | inl below ↦ rw (lt-ltb k n below, lt-ltb (suc k) (suc n) (omega arith)) (omega arith)
      | inr above ↦ rw (le-ltb k n above, le-ltb (suc k) (suc n) (omega arith)) (omega arith)
    ])

-- those of a table from n on, after v came to place k
largest-set : (xs : List ℕ) (n k v : ℕ) → k < length xs →
    largest (drop n (set xs k (max (get_or xs k 0) v))) ≡ max (largest (drop n xs)) (given (leb n k) v)
unfolding largest
largest-set [] n k v h = absurd (omega arith)
largest-set (x ∷ xs) zero zero v h = omega arith
largest-set (x ∷ xs) zero (suc k) v h =
    let more = largest-set xs zero k v (omega arith) in
    rw (more, le-leb 0 k (omega arith), le-leb 0 (suc k) (omega arith)) (omega arith)
largest-set (x ∷ xs) (suc n) zero v h = rw (lt-leb (suc n) 0 (omega arith)) (omega arith)
largest-set (x ∷ xs) (suc n) (suc k) v h =
    rw (largest-set xs n k v (omega arith))
    (elim (cases_lt k n) [
      | inl below ↦ rw (lt-leb n k below, lt-leb (suc n) (suc k) (omega arith)) refl
      | inr above ↦ rw (le-leb n k above, le-leb (suc n) (suc k) (omega arith)) refl
    ])

-- the table keeps its size
pub record Sized (t : LoadModel) : Type 0 where
  pub bursts : length t.bursts ≡ 8
  pub rates : length t.rates ≡ 8
  pub longest : length t.longest ≡ 8

pub sized_with : (t : LoadModel) (f : FlowModel) → Sized t → Sized (load_with t f)
sized_with t f sized =
    record {
      bursts = length-set t.bursts f.class _ ∙ sized.bursts;
      rates = length-set t.rates f.class _ ∙ sized.rates;
      longest = length-set t.longest f.class _ ∙ sized.longest;
    }

pub sized_none : Sized no_load
sized_none = record { bursts = refl; rates = refl; longest = refl }

-- class c or lower is below c + 1
leb-below : (a c : ℕ) → leb a c ≡ ltb a (c + 1)
leb-below a c =
    elim (cases_lt c a) [
      | inl above ↦ rw (lt-leb a c above, le-ltb a (c + 1) (omega arith)) refl
      | inr below ↦ rw (le-leb a c below, lt-ltb a (c + 1) (omega arith)) refl
    ]

ltb_above : (c a : ℕ) → leb (c + 1) a ≡ ltb c a
ltb_above c a =
    elim (cases_lt c a) [
      | inl above ↦ rw (lt-ltb c a above, le-leb (c + 1) a (omega arith)) refl
      | inr below ↦ rw (le-ltb c a below, lt-leb (c + 1) a (omega arith)) refl
    ]

pub kept-bursts : (p c : ℕ) (t : LoadModel) (fs : List FlowModel) → Sized t → Each Classed fs →
    total (take (c + 1) (load_of p t fs).bursts) ≡ total (take (c + 1) t.bursts) + bursts p c fs
unfolding load_of bursts
kept-bursts p c t [] sized low = sym (add-zero (total (take (c + 1) t.bursts)))
kept-bursts p c t (f ∷ fs) sized low = by (over p f) (λ u known. kept-bursts p c u fs known low.1)
  where
    T : ℕ
    T = total (take (c + 1) t.bursts)

    by : (b : Bool) → ((u : LoadModel) → Sized u → total (take (c + 1) (load_of p u fs).bursts) ≡ total (take (c + 1) u.bursts) + bursts p c fs) →
        total (take (c + 1) (load_of p (cond b (load_with t f) t) fs).bursts) ≡ T + (cond (b && leb f.class c) f.burst 0 + bursts p c fs)
    by true more =
        more (load_with t f) (sized_with t f sized)
        ∙ ap (λ n. n + bursts p c fs) (total-set t.bursts (c + 1) f.class f.burst (omega (arith, sized.bursts, low.0)))
        ∙ add_assoc T (given (ltb f.class (c + 1)) f.burst) (bursts p c fs)
        ∙ ap (λ b. T + (given b f.burst + bursts p c fs)) (sym (leb-below f.class c))
    by false more = more t sized ∙ ap (λ n. T + n) (sym (zero-add (bursts p c fs)))

pub kept-rates : (p c : ℕ) (t : LoadModel) (fs : List FlowModel) → Sized t → Each Classed fs →
    total (take c (load_of p t fs).rates) ≡ total (take c t.rates) + before p c fs
unfolding load_of before
kept-rates p c t [] sized low = sym (add-zero (total (take c t.rates)))
kept-rates p c t (f ∷ fs) sized low = by (over p f) (λ u known. kept-rates p c u fs known low.1)
  where
    T : ℕ
    T = total (take c t.rates)

    by : (b : Bool) → ((u : LoadModel) → Sized u → total (take c (load_of p u fs).rates) ≡ total (take c u.rates) + before p c fs) →
        total (take c (load_of p (cond b (load_with t f) t) fs).rates) ≡ T + (cond (b && ltb f.class c) f.rate 0 + before p c fs)
    by true more =
        more (load_with t f) (sized_with t f sized)
        ∙ ap (λ n. n + before p c fs) (total-set t.rates c f.class f.rate (omega (arith, sized.rates, low.0)))
        ∙ add_assoc T (given (ltb f.class c) f.rate) (before p c fs)
    by false more = more t sized ∙ ap (λ n. T + n) (sym (zero-add (before p c fs)))

pub kept-longest : (p c : ℕ) (t : LoadModel) (fs : List FlowModel) → Sized t → Each Classed fs →
    largest (drop (c + 1) (load_of p t fs).longest) ≡ max (largest (drop (c + 1) t.longest)) (long p c fs)
unfolding load_of long
kept-longest p c t [] sized low = omega arith
kept-longest p c t (f ∷ fs) sized low = by (over p f) (λ u known. kept-longest p c u fs known low.1)
  where
    M : ℕ
    M = largest (drop (c + 1) t.longest)

    three : (a b d : ℕ) → max (max a b) d ≡ max a (max b d)
    three a b d = omega arith

    by : (b : Bool) → ((u : LoadModel) → Sized u → largest (drop (c + 1) (load_of p u fs).longest) ≡ max (largest (drop (c + 1) u.longest)) (long p c fs)) →
        largest (drop (c + 1) (load_of p (cond b (load_with t f) t) fs).longest) ≡ max M (max (cond (b && ltb c f.class) f.longest 0) (long p c fs))
    by true more =
        more (load_with t f) (sized_with t f sized)
        ∙ ap (λ n. max n (long p c fs)) (largest-set t.longest (c + 1) f.class f.longest (omega (arith, sized.longest, low.0)))
        ∙ three M (given (leb (c + 1) f.class) f.longest) (long p c fs)
        ∙ ap (λ b. max M (max (given b f.longest) (long p c fs))) (ltb_above c f.class)
    by false more = more t sized ∙ ap (λ n. max M n) (sym (zero-max (long p c fs)))
