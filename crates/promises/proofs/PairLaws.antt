-- A flow more along a road, from each port to the next. Assumes nothing.
use Rattle.std.proofs.Common.{◌≡◌, ℕ, ◌<◌, ◌≤◌, Bool, true, false, cond, ◌&&◌, ◌||◌, eqb, ◌⊎◌, List, [], ◌∷◌, ◌++◌, length, get_or, take, drop, set, Some, None, sym, refl, ap, ◌∙◌, subst, inl, inr, arith}
use Rattle.std.proofs.Math.Bool.{or-false}
use Rattle.std.proofs.lemmas.Option.{none-some}
use Rattle.std.proofs.lemmas.List.{get_or-set_same, get_or-set_other, length-set}
use Rattle.flows.specs.Flow.{FlowModel}
use Rattle.promises.specs.Loads.{LoadModel, no_load, load_with, load_fits, pair_of, pair_at, put_pair, pairs_with, pairs_until, pairs_along}
use Rattle.promises.specs.Promises.{goes}
use Rattle.promises.specs.Laws.{Squared, PairsKept}
use Rattle.promises.proofs.TableLaws.{one_full, one_more}
use Rattle.flows.specs.Flow.{Once}
use Rattle.std.specs.List.{AllByRecursion as Each}
use Rattle.std.proofs.lemmas.Bool.{or_from, and_left, ne_eqb, eqb-true, eqb-false, cases_eq, cond-false}

-- the two ports of a window at the front of a road, and the rest
front : (road hop : List ℕ) → 2 ≤ length road → hop ≡ take 2 road →
    (road ≡ get_or hop 0 0 ∷ get_or hop 1 0 ∷ drop 2 road) × (drop 1 road ≡ get_or hop 1 0 ∷ drop 2 road)
front [] hop long is = absurd (omega arith)
front (p ∷ []) hop long is = absurd (omega arith)
front (p ∷ q ∷ ps) hop long is = rw is (refl, refl)

-- the same as a step of an iterator over windows of two tells it
pub window_front : (road hop rest : List ℕ) (size : ℕ) → size ≡ 2 → (size ≤ length road) × (hop ≡ take size road) × (rest ≡ drop 1 road) × (length hop ≡ size) →
    (road ≡ get_or hop 0 0 ∷ get_or hop 1 0 ∷ drop 2 road) × (rest ≡ get_or hop 1 0 ∷ drop 2 road)
window_front road hop rest size two (long, is, next, sized) =
    let found = front road hop (omega arith) (is ∙ ap (λ n. take n road) two) in
    (found.0, next ∙ found.1)

-- A flow more from one port of a road to the next, and from those behind: where it does not fit, and where it does.
module _ (f : FlowModel) (tables : List (List LoadModel)) (p q : ℕ) (ps : List ℕ) (t : LoadModel) (is : t ≡ pair_at tables p q) where
  pub pairs_full : None ≡ cond (load_fits t f) (Some (load_with t f)) None → (None ≡ pairs_with f (p ∷ q ∷ ps) tables) × (tables ≡ pairs_until f (p ∷ q ∷ ps) tables)
  unfolding pairs_with pairs_until
  pairs_full none = (
    one_full f t _ (λ u. pairs_with f (q ∷ ps) (put_pair tables p q u)) None is none,
    one_full f t _ (λ u. pairs_until f (q ∷ ps) (put_pair tables p q u)) tables is none,
  )

  pub pairs_more : (u : LoadModel) → Some u ≡ cond (load_fits t f) (Some (load_with t f)) None →
      (pairs_with f (q ∷ ps) (put_pair tables p q u) ≡ pairs_with f (p ∷ q ∷ ps) tables) ×
      (pairs_until f (q ∷ ps) (put_pair tables p q u) ≡ pairs_until f (p ∷ q ∷ ps) tables)
  unfolding pairs_with pairs_until
  pairs_more u some = (
    one_more f t _ (λ u. pairs_with f (q ∷ ps) (put_pair tables p q u)) None is u some,
    one_more f t _ (λ u. pairs_until f (q ∷ ps) (put_pair tables p q u)) tables is u some,
  )

-- at most one port is left
pub one_left : (f : FlowModel) (ps : List ℕ) (tables : List (List LoadModel)) → length ps ≤ 1 →
    (pairs_with f ps tables ≡ Some tables) × (pairs_until f ps tables ≡ tables)
unfolding pairs_with pairs_until
one_left f [] tables few = (refl, refl)
one_left f (p ∷ []) tables few = (refl, refl)
one_left f (p ∷ q ∷ ps) tables few = absurd (omega arith)

pub none_along : (ps : List ℕ) (us tables : List (List LoadModel)) → length ps ≤ 1 → pairs_along ps us tables ≡ tables
unfolding pairs_along
none_along [] us tables few = refl
none_along (p ∷ []) us tables few = refl
none_along (p ∷ q ∷ ps) us tables few = absurd (omega arith)

-- no road goes on from a port that is not on it
goes_apart : (p q : ℕ) (ps : List ℕ) → Each (λ r. r ≡ p → ⊥) ps → goes p q ps ≡ false
unfolding goes
goes_apart p q [] all = refl
goes_apart p q (x ∷ []) all = refl
goes_apart p q (x ∷ y ∷ ys) all =
    or_from (eqb x p && eqb y q) (goes p q (y ∷ ys)) (and_left (eqb x p) (eqb y q) (ne_eqb x p all.0)) (goes_apart p q (y ∷ ys) all.1)

-- the tables keep their sizes
pub squared_put : (tables : List (List LoadModel)) (p q : ℕ) (t : LoadModel) → Squared tables → Squared (put_pair tables p q t)
squared_put tables p q t squared =
    record {
      rows = length-set tables p _ ∙ squared.rows;
      columns = λ r h. row r h (cases_eq r p);
    }
  where
    row : (r : ℕ) → r < 64 → (r ≡ p) ⊎ (r ≡ p → ⊥) → length (get_or (put_pair tables p q t) r []) ≡ 64
    row r h (inl same) =
        let here : p < length tables = omega (arith, squared.rows) in
        ap (λ x. length (get_or (put_pair tables p q t) x [])) same
        ∙ ap length (get_or-set_same tables p (set (get_or tables p []) q t) [] here)
        ∙ length-set (get_or tables p []) q t
        ∙ squared.columns p (omega arith)
    row r h (inr differs) = ap length (get_or-set_other tables p r (set (get_or tables p []) q t) [] differs) ∙ squared.columns r h

module _ (tables : List (List LoadModel)) (a b : ℕ) (t : LoadModel) (squared : Squared tables) (a-port : a < 64) (b-port : b < 64) where
  pub put_here : pair_at (put_pair tables a b t) a b ≡ t
  put_here =
      ap (λ ls. get_or ls b no_load) (get_or-set_same tables a (set (get_or tables a []) b t) [] (omega (arith, squared.rows)))
      ∙ get_or-set_same (get_or tables a []) b t no_load (omega (arith, squared.columns a a-port))

  pub put_beside : (q : ℕ) → (q ≡ b → ⊥) → pair_at (put_pair tables a b t) a q ≡ pair_at tables a q
  put_beside q differs =
      ap (λ ls. get_or ls q no_load) (get_or-set_same tables a (set (get_or tables a []) b t) [] (omega (arith, squared.rows)))
      ∙ get_or-set_other (get_or tables a []) b q t no_load differs

  pub put_elsewhere : (p q : ℕ) → (p ≡ a → ⊥) → pair_at (put_pair tables a b t) p q ≡ pair_at tables p q
  put_elsewhere p q differs = ap (λ ls. get_or ls q no_load) (get_or-set_other tables a p (set (get_or tables a []) b t) [] differs)

-- what goes between two ports is more where the road goes so, and else as it was
pairs-places : (f : FlowModel) (ps : List ℕ) (tables us : List (List LoadModel)) → Squared tables → Once ps → Each (λ p. p < 64) ps →
    pairs_with f ps tables ≡ Some us →
    Squared us × ((p q : ℕ) → pair_at us p q ≡ cond (goes p q ps) (load_with (pair_at tables p q) f) (pair_at tables p q))
unfolding pairs_with goes
pairs-places f [] tables us squared once known e =
    let same : tables ≡ us = cc in
    let P : List (List LoadModel) → Type 0 = λ x. Squared x × ((p q : ℕ) → pair_at x p q ≡ pair_at tables p q) in
    subst P same (squared, λ p q. refl)
pairs-places f (a ∷ []) tables us squared once known e =
    let same : tables ≡ us = cc in
    let P : List (List LoadModel) → Type 0 = λ x. Squared x × ((p q : ℕ) → pair_at x p q ≡ pair_at tables p q) in
    subst P same (squared, λ p q. refl)
pairs-places f (a ∷ b ∷ ps) tables us squared once known e =
    by (load_fits (pair_at tables a b) f) refl (λ rest. pairs-places f (b ∷ ps) next us (squared_put tables a b _ squared) once.1 known.1 rest)
  where
    next : List (List LoadModel)
    next = put_pair tables a b (load_with (pair_at tables a b) f)

    Places : Type 0
    Places = (p q : ℕ) → pair_at us p q ≡ cond (goes p q (b ∷ ps)) (load_with (pair_at next p q) f) (pair_at next p q)

    Goal : ℕ → ℕ → Bool → Bool → Type 0
    Goal p q x y = pair_at us p q ≡ cond ((x && y) || goes p q (b ∷ ps)) (load_with (pair_at tables p q) f) (pair_at tables p q)

    from_a : Places → (q : ℕ) → (y : Bool) → eqb b q ≡ y → pair_at us a q ≡ cond y (load_with (pair_at tables a q) f) (pair_at tables a q)
    from_a got q true same =
        let is : b ≡ q = eqb-true b q same in
        got a q ∙ cond-false (goes a q (b ∷ ps)) _ _ (goes_apart a q (b ∷ ps) once.0)
        ∙ ap (λ x. pair_at next a x) (sym is) ∙ put_here tables a b (load_with (pair_at tables a b) f) squared known.0 known.1.0
        ∙ ap (λ x. load_with (pair_at tables a x) f) is
    from_a got q false differs =
        got a q ∙ cond-false (goes a q (b ∷ ps)) _ _ (goes_apart a q (b ∷ ps) once.0)
        ∙ put_beside tables a b (load_with (pair_at tables a b) f) squared known.0 known.1.0 q (λ z. eqb-false b q differs (sym z))

    placed : Places → (p q : ℕ) → (x : Bool) → eqb a p ≡ x → Goal p q x (eqb b q)
    placed got p q true same =
        let is : a ≡ p = eqb-true a p same in
        let P : ℕ → Type 0 = λ r. Goal r q true (eqb b q) in
        subst P is
        (from_a got q (eqb b q) refl
        ∙ ap (λ x. cond x (load_with (pair_at tables a q) f) (pair_at tables a q))
        (sym (ap (λ x. eqb b q || x) (goes_apart a q (b ∷ ps) once.0) ∙ or-false (eqb b q))))
    placed got p q false differs =
        got p q ∙ ap (λ x. cond (goes p q (b ∷ ps)) (load_with x f) x)
        (put_elsewhere tables a b (load_with (pair_at tables a b) f) squared known.0 known.1.0 p q (λ z. eqb-false a p differs (sym z)))

    by : (fit : Bool) → load_fits (pair_at tables a b) f ≡ fit → (pairs_with f (b ∷ ps) next ≡ Some us → Squared us × Places) →
        Squared us × ((p q : ℕ) → Goal p q (eqb a p) (eqb b q))
    by false fits more =
        let step : pairs_with f (a ∷ b ∷ ps) tables ≡ None = rw (fits, pairs_with) refl in
        absurd (none-some us (sym step ∙ e))
    by true fits more =
        let step : pairs_with f (a ∷ b ∷ ps) tables ≡ pairs_with f (b ∷ ps) next = rw (fits, pairs_with) refl in
        let got = more (sym step ∙ e) in
        (got.0, λ p q. placed got.1 p q (eqb a p) refl)

pub pair_push : (p q : ℕ) (t : LoadModel) (fs : List FlowModel) (f : FlowModel) →
    pair_of p q t (fs ++ f ∷ []) ≡ cond (goes p q f.road) (load_with (pair_of p q t fs) f) (pair_of p q t fs)
unfolding pair_of
pair_push p q t [] f = refl
pair_push p q t (g ∷ fs) f = pair_push p q (cond (goes p q g.road) (load_with t g) t) fs f

pub pairs-kept : PairsKept
pairs-kept tables us fs f squared once known kept got =
    let places = pairs-places f f.road tables us squared once known got in (
      places.0,
      λ p q a b.
          places.1 p q ∙ ap (λ t. cond (goes p q f.road) (load_with t f) t) (kept p q a b) ∙ sym (pair_push p q no_load fs f),
    )
