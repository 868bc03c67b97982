-- How far a flow comes where not all sums of its road fit. Assumes nothing.
use Rattle.std.proofs.Common.{◌≡◌, ℕ, zero, suc, ◌+◌, ◌<◌, Bool, true, false, cond, ◌&&◌, ◌||◌, eqb, ◌⊎◌, List, [], ◌∷◌, length, get_or, take, set, Some, None, sym, refl, ap, ◌∙◌, inl, inr, arith}
use Rattle.std.specs.List.{AllByRecursion as Each}
use Rattle.std.proofs.lemmas.Option.{none-some}
use Rattle.std.proofs.lemmas.List.{ext_get_or, get_or-set_other, length-set}
use Rattle.std.proofs.lemmas.Bool.{eqb-true, eqb-false, true≢false}
use Rattle.flows.specs.Flow.{FlowModel}
use Rattle.flows.specs.FlowFormat.{passes}
use Rattle.promises.specs.Promises.{goes}
use Rattle.promises.specs.Loads.{LoadModel, no_load, load_with, load_fits, loads_with, loads_until, pair_at, put_pair, pairs_with, pairs_until, pairs_along}
use Rattle.promises.specs.Laws.{Squared, UntilFull, PairsUntilFull, RefusalUndone, PairsUndone}
use Rattle.promises.proofs.PairLaws.{squared_put, put_beside, put_elsewhere}
use Rattle.promises.proofs.FollowLaws.{along_length, along_squared, along_each, pairs_along_each}

later : (n : ℕ) → suc n + 1 ≡ suc (n + 1)
later n = omega arith

pub until_full : UntilFull
unfolding loads_with loads_until
until_full f [] ts = (0, refl, inl refl)
until_full f (p ∷ ps) ts = by (load_fits (get_or ts p no_load) f) refl (until_full f ps next)
  where
    next : List LoadModel
    next = set ts p (load_with (get_or ts p no_load) f)

    by : (b : Bool) → load_fits (get_or ts p no_load) f ≡ b →
        ((n : ℕ) × (loads_with f (take n ps) next ≡ Some (loads_until f ps next)) × ((n ≡ length ps) ⊎ (loads_with f (take (n + 1) ps) next ≡ None))) →
        (n : ℕ) × (loads_with f (take n (p ∷ ps)) ts ≡ Some (loads_until f (p ∷ ps) ts)) ×
        ((n ≡ length (p ∷ ps)) ⊎ (loads_with f (take (n + 1) (p ∷ ps)) ts ≡ None))
    by true fits (n, far, inl all) = (suc n, rw (fits, loads_with, loads_until) far, inl (ap suc all))
    by true fits (n, far, inr full) = (
      suc n,
      rw (fits, loads_with, loads_until) far,
      inr (ap (λ k. loads_with f (take k (p ∷ ps)) ts) (later n) ∙ rw (fits, loads_with) full),
    )
    by false fits more = (0, rw (fits, loads_until) refl, inr (rw (fits, loads_with) refl))

pub pairs_until_full : PairsUntilFull
unfolding pairs_with pairs_until
pairs_until_full f [] tables = (0, refl, inl refl)
pairs_until_full f (p ∷ []) tables = (1, refl, inl refl)
pairs_until_full f (p ∷ q ∷ ps) tables = by (load_fits (pair_at tables p q) f) refl (pairs_until_full f (q ∷ ps) next)
  where
    next : List (List LoadModel)
    next = put_pair tables p q (load_with (pair_at tables p q) f)

    by : (b : Bool) → load_fits (pair_at tables p q) f ≡ b →
        ((n : ℕ) × (pairs_with f (take n (q ∷ ps)) next ≡ Some (pairs_until f (q ∷ ps) next)) ×
        ((n ≡ length (q ∷ ps)) ⊎ (pairs_with f (take (n + 1) (q ∷ ps)) next ≡ None))) →
        (n : ℕ) × (pairs_with f (take n (p ∷ q ∷ ps)) tables ≡ Some (pairs_until f (p ∷ q ∷ ps) tables)) ×
        ((n ≡ length (p ∷ q ∷ ps)) ⊎ (pairs_with f (take (n + 1) (p ∷ q ∷ ps)) tables ≡ None))
    by true fits (zero, far, inl all) = absurd (omega arith)
    by true fits (zero, far, inr full) = absurd (none-some _ (sym full))
    by true fits (suc n, far, inl all) = (suc (suc n), rw (fits, pairs_with, pairs_until) far, inl (ap suc all))
    by true fits (suc n, far, inr full) = (
      suc (suc n),
      rw (fits, pairs_with, pairs_until) far,
      inr
          (ap (λ k. pairs_with f (take k (p ∷ q ∷ ps)) tables) (later (suc n) ∙ ap suc (later n))
          ∙ rw (fits, pairs_with) (ap (λ k. pairs_with f (take k (q ∷ ps)) next) (sym (later n)) ∙ full)),
    )
    by false fits more = (1, rw (fits, pairs_until) refl, inr (rw (fits, pairs_with) refl))

-- the ports that a road does not pass are as they were
until_length : (f : FlowModel) (road : List ℕ) (ts : List LoadModel) → length (loads_until f road ts) ≡ length ts
unfolding loads_until
until_length f [] ts = refl
until_length f (p ∷ ps) ts = by (load_fits (get_or ts p no_load) f) (until_length f ps next)
  where
    next : List LoadModel
    next = set ts p (load_with (get_or ts p no_load) f)

    by : (b : Bool) → length (loads_until f ps next) ≡ length next → length (cond b (loads_until f ps next) ts) ≡ length ts
    by true more = more ∙ length-set ts p (load_with (get_or ts p no_load) f)
    by false more = refl

until_apart : (f : FlowModel) (road : List ℕ) (ts : List LoadModel) (q : ℕ) → passes q road ≡ false → get_or (loads_until f road ts) q no_load ≡ get_or ts q no_load
unfolding loads_until passes
until_apart f [] ts q apart = refl
until_apart f (p ∷ ps) ts q apart = first (eqb q p) refl apart (load_fits (get_or ts p no_load) f) (until_apart f ps next q)
  where
    next : List LoadModel
    next = set ts p (load_with (get_or ts p no_load) f)

    first : (same : Bool) → eqb q p ≡ same → (same || passes q ps) ≡ false → (b : Bool) →
        (passes q ps ≡ false → get_or (loads_until f ps next) q no_load ≡ get_or next q no_load) →
        get_or (cond b (loads_until f ps next) ts) q no_load ≡ get_or ts q no_load
    first true is apart-too b more = absurd (true≢false apart-too)
    first false is apart-too true more = more apart-too ∙ get_or-set_other ts p q (load_with (get_or ts p no_load) f) no_load (eqb-false q p is)
    first false is apart-too false more = refl

pub refusal_undone : RefusalUndone
refusal_undone f road ts =
    ext_get_or no_load _ ts (along_length road ts now ∙ until_length f road ts)
    (λ q less. along_each road ts now q (omega (arith, along_length road ts now)) ∙ by q (passes q road) refl)
  where
    now : List LoadModel
    now = loads_until f road ts

    by : (q : ℕ) (b : Bool) → passes q road ≡ b → cond b (get_or ts q no_load) (get_or now q no_load) ≡ get_or ts q no_load
    by q true on = refl
    by q false apart = until_apart f road ts q apart

until_squared : (f : FlowModel) (road : List ℕ) (tables : List (List LoadModel)) → Squared tables → Squared (pairs_until f road tables)
unfolding pairs_until
until_squared f [] tables squared = squared
until_squared f (p ∷ []) tables squared = squared
until_squared f (p ∷ q ∷ ps) tables squared =
    by (load_fits (pair_at tables p q) f) (until_squared f (q ∷ ps) next (squared_put tables p q _ squared))
  where
    next : List (List LoadModel)
    next = put_pair tables p q (load_with (pair_at tables p q) f)

    by : (b : Bool) → Squared (pairs_until f (q ∷ ps) next) → Squared (cond b (pairs_until f (q ∷ ps) next) tables)
    by true more = more
    by false more = squared

pairs_until_apart : (f : FlowModel) (road : List ℕ) (tables : List (List LoadModel)) (p q : ℕ) → Squared tables → Each (λ r. r < 64) road →
    goes p q road ≡ false → pair_at (pairs_until f road tables) p q ≡ pair_at tables p q
unfolding pairs_until goes
pairs_until_apart f [] tables p q squared known apart = refl
pairs_until_apart f (a ∷ []) tables p q squared known apart = refl
pairs_until_apart f (a ∷ b ∷ ps) tables p q squared known apart =
    first (eqb a p) (eqb b q) refl refl apart (load_fits (pair_at tables a b) f)
    (pairs_until_apart f (b ∷ ps) next p q (squared_put tables a b more squared) known.1)
  where
    more : LoadModel
    more = load_with (pair_at tables a b) f

    next : List (List LoadModel)
    next = put_pair tables a b more

    first : (x y : Bool) → eqb a p ≡ x → eqb b q ≡ y → ((x && y) || goes p q (b ∷ ps)) ≡ false → (fits : Bool) →
        (goes p q (b ∷ ps) ≡ false → pair_at (pairs_until f (b ∷ ps) next) p q ≡ pair_at next p q) →
        pair_at (cond fits (pairs_until f (b ∷ ps) next) tables) p q ≡ pair_at tables p q
    first x y is is-too apart-too false rest = refl
    first true true is is-too apart-too true rest = absurd (true≢false apart-too)
    first true false is is-too apart-too true rest =
        let e : a ≡ p = eqb-true a p is in
        rest apart-too ∙ ap (λ x. pair_at next x q) (sym e)
        ∙ put_beside tables a b more squared known.0 known.1.0 q (λ z. eqb-false b q is-too (sym z)) ∙ ap (λ x. pair_at tables x q) e
    first false y is is-too apart-too true rest = rest apart-too ∙ put_elsewhere tables a b more squared known.0 known.1.0 p q (λ z. eqb-false a p is (sym z))

pub pairs_undone_lem : PairsUndone
pairs_undone_lem f road tables squared known =
    ext_get_or [] back tables (square.rows ∙ sym squared.rows) (λ p less. row p (omega (arith, square.rows)))
  where
    now : List (List LoadModel)
    now = pairs_until f road tables

    back : List (List LoadModel)
    back = pairs_along road tables now

    squared-now : Squared now
    squared-now = until_squared f road tables squared

    square : Squared back
    square = along_squared road tables now squared-now

    by : (p q : ℕ) (b : Bool) → goes p q road ≡ b → cond b (pair_at tables p q) (pair_at now p q) ≡ pair_at tables p q
    by p q true on = refl
    by p q false apart = pairs_until_apart f road tables p q squared known apart

    row : (p : ℕ) → p < 64 → get_or back p [] ≡ get_or tables p []
    row p less =
        ext_get_or no_load (get_or back p []) (get_or tables p []) (square.columns p less ∙ sym (squared.columns p less))
        (λ q _. pairs_along_each road tables now p q squared-now known ∙ by p q (goes p q road) refl)
