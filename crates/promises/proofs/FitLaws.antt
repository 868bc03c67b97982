-- Sums over at most 256 flows fit 32 bits. Assumes nothing.
use Rattle.std.proofs.Common.{◌≡◌, ℕ, zero, suc, ◌+◌, ◌*◌, ◌<◌, ◌≤◌, Bool, true, false, cond, ltb, List, [], ◌∷◌, length, get_or, set, Some, sym, refl, ap, ◌∙◌, subst, arith}
use Rattle.std.specs.List.{AllByRecursion as Each}
use Rattle.std.proofs.ByRecursion.{All-weaker}
use Rattle.std.proofs.lemmas.List.{get_or-set_other}
use Rattle.std.proofs.lemmas.Bool.{and_from, lt-ltb}
use Rattle.flows.specs.Flow.{FlowModel, Once}
use Rattle.promises.specs.Promises.{den, over, goes}
use Rattle.promises.specs.Loads.{LoadModel, no_load, load_with, load_of, load_fits, loads_with, pair_of, pair_at, put_pair, pairs_with}
use Rattle.promises.proofs.SumLaws.{zeros}
use Rattle.promises.specs.Laws.{Bounded, SumsFit, PairsFit}

-- place c of a table, after v was added at place k
place_more : (xs : List ℕ) (k c v : ℕ) → get_or (set xs k (get_or xs k 0 + v)) c 0 ≤ get_or xs c 0 + v
place_more [] k c v = omega arith
place_more (x ∷ xs) zero zero v = omega arith
place_more (x ∷ xs) zero (suc c) v = omega arith
place_more (x ∷ xs) (suc k) zero v = omega arith
place_more (x ∷ xs) (suc k) (suc c) v = place_more xs k c v

-- no sum is greater than those of n flows can be
pub record Within (n : ℕ) (t : LoadModel) : Type 0 where
  pub bursts : (c : ℕ) → get_or t.bursts c 0 ≤ 65535 * n
  pub rates : (c : ℕ) → get_or t.rates c 0 ≤ den * n

within_none : Within 0 no_load
within_none = record { bursts = λ c. omega (arith, zeros 8 c); rates = λ c. omega (arith, zeros 8 c) }

within_more : (n m : ℕ) (t : LoadModel) → n ≤ m → Within n t → Within m t
within_more n m t less within =
    record { bursts = λ c. omega (arith, within.bursts c); rates = λ c. omega (arith, within.rates c) }

within_with : (n : ℕ) (t : LoadModel) (f : FlowModel) → Bounded f → Within n t → Within (n + 1) (load_with t f)
within_with n t f bounded within =
    record {
      bursts = λ c. omega (arith, within.bursts c, place_more t.bursts f.class c f.burst, bounded.0);
      rates = λ c. omega (arith, within.rates c, place_more t.rates f.class c f.rate, bounded.1);
    }

-- a flow that is asked for or not
within-asked : (b : Bool) (n : ℕ) (t : LoadModel) (f : FlowModel) → Bounded f → Within n t → Within (n + 1) (cond b (load_with t f) t)
within-asked true n t f bounded within = within_with n t f bounded within
within-asked false n t f bounded within = within_more n (n + 1) t (omega arith) within

load_within : (p n : ℕ) (t : LoadModel) (fs : List FlowModel) → Each Bounded fs → Within n t → Within (n + length fs) (load_of p t fs)
unfolding load_of
load_within p n t [] bounded within = within_more n (n + 0) t (omega arith) within
load_within p n t (f ∷ fs) bounded within =
    let next = cond (over p f) (load_with t f) t in
    let rest = load_within p (n + 1) next fs bounded.1 (within-asked (over p f) n t f bounded.0 within) in
    within_more (n + 1 + length fs) (n + length (f ∷ fs)) (load_of p next fs) (omega arith) rest

pair_within : (p q n : ℕ) (t : LoadModel) (fs : List FlowModel) → Each Bounded fs → Within n t → Within (n + length fs) (pair_of p q t fs)
unfolding pair_of
pair_within p q n t [] bounded within = within_more n (n + 0) t (omega arith) within
pair_within p q n t (f ∷ fs) bounded within =
    let next = cond (goes p q f.road) (load_with t f) t in
    let rest = pair_within p q (n + 1) next fs bounded.1 (within-asked (goes p q f.road) n t f bounded.0 within) in
    within_more (n + 1 + length fs) (n + length (f ∷ fs)) (pair_of p q next fs) (omega arith) rest

-- the sums of 255 flows have room for one more
room : (t : LoadModel) (f : FlowModel) → Bounded f → Within 255 t → load_fits t f ≡ true
room t f bounded within =
    and_from (ltb (get_or t.bursts f.class 0 + f.burst) 4294967296) (ltb (get_or t.rates f.class 0 + f.rate) 4294967296)
    (lt-ltb _ _ (omega (arith, within.bursts f.class, bounded.0)))
    (lt-ltb _ _ (omega (arith, within.rates f.class, bounded.1)))

-- a fact that follows from two
all_zip : {X : Type 0} (P Q R : X → Type 0) → ((x : X) → P x → Q x → R x) → (xs : List X) → Each P xs → Each Q xs → Each R xs
all_zip P Q R both [] ps qs = tt
all_zip P Q R both (x ∷ xs) ps qs = (both x ps.0 qs.0, all_zip P Q R both xs ps.1 qs.1)

along_fits : (f : FlowModel) (ps : List ℕ) (ts : List LoadModel) → Bounded f → Once ps → Each (λ p. Within 255 (get_or ts p no_load)) ps →
    (us : List LoadModel) × (loads_with f ps ts ≡ Some us)
unfolding loads_with
along_fits f [] ts bounded once within = (ts, refl)
along_fits f (p ∷ ps) ts bounded once within =
    let fits = room (get_or ts p no_load) f bounded within.0 in
    let step : loads_with f (p ∷ ps) ts ≡ loads_with f ps next = rw (fits, loads_with) refl in
    let rest = along_fits f ps next bounded once.1 still in
    (rest.0, step ∙ rest.1)
  where
    next : List LoadModel
    next = set ts p (load_with (get_or ts p no_load) f)

    -- the other ports of the road are as they were
    still : Each (λ r. Within 255 (get_or next r no_load)) ps
    still =
        all_zip (λ r. r ≡ p → ⊥) (λ r. Within 255 (get_or ts r no_load)) (λ r. Within 255 (get_or next r no_load))
        (λ r differs h. subst (Within 255) (sym (get_or-set_other ts p r (load_with (get_or ts p no_load) f) no_load differs)) h) ps once.0 within.1

pub sums_fit_lem : SumsFit
sums_fit_lem ts fs f bounded fits once known few kept =
    along_fits f f.road ts fits once
    (All-weaker (λ p. p < 64) (λ p. Within 255 (get_or ts p no_load))
    (λ p h. subst (Within 255) (sym (kept p h)) (within_more (0 + length fs) 255 _ (omega arith) (load_within p 0 no_load fs bounded within_none)))
    f.road known)

-- all that goes on from a port to one of the net
abbrev FromWithin : List (List LoadModel) → ℕ → Type 0
FromWithin tables p = (q : ℕ) → q < 64 → Within 255 (pair_at tables p q)

between_fits : (f : FlowModel) (ps : List ℕ) (tables : List (List LoadModel)) → Bounded f → Once ps → Each (λ p. p < 64) ps → Each (FromWithin tables) ps →
    (us : List (List LoadModel)) × (pairs_with f ps tables ≡ Some us)
unfolding pairs_with
between_fits f [] tables bounded once known within = (tables, refl)
between_fits f (p ∷ []) tables bounded once known within = (tables, refl)
between_fits f (p ∷ q ∷ ps) tables bounded once known within =
    let fits = room (pair_at tables p q) f bounded (within.0 q known.1.0) in
    let step : pairs_with f (p ∷ q ∷ ps) tables ≡ pairs_with f (q ∷ ps) next = rw (fits, pairs_with) refl in
    let rest = between_fits f (q ∷ ps) next bounded once.1 known.1 still in
    (rest.0, step ∙ rest.1)
  where
    next : List (List LoadModel)
    next = put_pair tables p q (load_with (pair_at tables p q) f)

    -- what goes on from the other ports of the road is as it was
    still : Each (FromWithin next) (q ∷ ps)
    still =
        all_zip (λ r. r ≡ p → ⊥) (FromWithin tables) (FromWithin next)
        (λ r differs h s port.
        subst (Within 255)
        (sym (ap (λ ls. get_or ls s no_load) (get_or-set_other tables p r (set (get_or tables p []) q (load_with (pair_at tables p q) f)) [] differs))) (h s port))
        (q ∷ ps) once.0 within.1

pub pairs_fit_lem : PairsFit
pairs_fit_lem tables fs f bounded fits once known few kept =
    between_fits f f.road tables fits once known
    (All-weaker (λ p. p < 64) (FromWithin tables)
    (λ p a q b.
    subst (Within 255) (sym (kept p q a b)) (within_more (0 + length fs) 255 _ (omega arith) (pair_within p q 0 no_load fs bounded within_none)))
    f.road known)
