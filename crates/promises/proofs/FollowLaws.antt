-- Sums that follow others along a road. Assumes nothing.
use Rattle.std.proofs.Common.{◌≡◌, ℕ, ◌<◌, Bool, true, false, cond, ◌&&◌, ◌||◌, eqb, List, [], ◌∷◌, ◌++◌, length, get_or, set, sym, refl, ap, ◌∙◌, arith}
use Rattle.std.specs.List.{AllByRecursion as Each}
use Rattle.std.proofs.lemmas.List.{get_or-set_same, get_or-set_other, length-set}
use Rattle.std.proofs.lemmas.Bool.{eqb-true, eqb-false}
use Rattle.flows.specs.Flow.{FlowModel}
use Rattle.flows.specs.FlowFormat.{passes}
use Rattle.promises.specs.Promises.{over, goes}
use Rattle.promises.specs.Loads.{LoadModel, no_load, load_with, load_of, loads_along, pair_of, pair_at, put_pair, pairs_along}
use Rattle.promises.specs.Laws.{Squared, TablesFollow, PairsFollow}
use Rattle.promises.proofs.TableLaws.{load_push}
use Rattle.promises.proofs.PairLaws.{squared_put, put_here, put_beside, put_elsewhere, pair_push}

twice : (b : Bool) (x : LoadModel) → cond b x x ≡ x
twice true x = refl
twice false x = refl

-- Where a flow more is asked: that with it, and else that without it.
either : (b : Bool) (t u without with : LoadModel) (f : FlowModel) → t ≡ without → u ≡ with → with ≡ cond b (load_with without f) without →
    (cond b u t ≡ with) × (cond b t u ≡ without)
either true t u without with f kept more is = (more, kept)
either false t u without with f kept more is = (kept ∙ sym is, more ∙ is)

-- the tables keep their sizes
pub along_length : (road : List ℕ) (us ts : List LoadModel) → length (loads_along road us ts) ≡ length ts
unfolding loads_along
along_length [] us ts = refl
along_length (p ∷ ps) us ts = along_length ps us (set ts p (get_or us p no_load)) ∙ length-set ts p (get_or us p no_load)

pub along_squared : (road : List ℕ) (us tables : List (List LoadModel)) → Squared tables → Squared (pairs_along road us tables)
unfolding pairs_along
along_squared [] us tables squared = squared
along_squared (p ∷ []) us tables squared = squared
along_squared (p ∷ q ∷ ps) us tables squared =
    along_squared (q ∷ ps) us (put_pair tables p q (pair_at us p q)) (squared_put tables p q (pair_at us p q) squared)

-- of a port on the road what the other table says, of another what was said
pub along_each : (road : List ℕ) (us ts : List LoadModel) (q : ℕ) → q < length ts →
    get_or (loads_along road us ts) q no_load ≡ cond (passes q road) (get_or us q no_load) (get_or ts q no_load)
unfolding loads_along passes
along_each [] us ts q less = refl
along_each (p ∷ ps) us ts q less = along_each ps us next q (omega (arith, length-set ts p (get_or us p no_load))) ∙ by (eqb q p) refl
  where
    next : List LoadModel
    next = set ts p (get_or us p no_load)

    by : (same : Bool) → eqb q p ≡ same →
        cond (passes q ps) (get_or us q no_load) (get_or next q no_load) ≡ cond (same || passes q ps) (get_or us q no_load) (get_or ts q no_load)
    by true is =
        let e : q ≡ p = eqb-true q p is in
        let here : get_or next q no_load ≡ get_or us q no_load =
        ap (λ x. get_or next x no_load) e ∙ get_or-set_same ts p (get_or us p no_load) no_load (omega (arith, e)) ∙ ap (λ x. get_or us x no_load) (sym e) in
        ap (cond (passes q ps) (get_or us q no_load)) here ∙ twice (passes q ps) (get_or us q no_load)
    by false differs =
        ap (cond (passes q ps) (get_or us q no_load)) (get_or-set_other ts p q (get_or us p no_load) no_load (eqb-false q p differs))

-- a flow more is asked where its road passes, and nowhere else
pub tables_follow : TablesFollow
tables_follow ts us fs f long long-too kept more = (
  λ q less.
      along_each f.road us ts q (omega (arith, long)) ∙ (both q less).0,
  λ q less.
      along_each f.road ts us q (omega (arith, long-too)) ∙ (both q less).1,
  along_length f.road us ts ∙ long,
  along_length f.road ts us ∙ long-too,
)
  where
    both : (q : ℕ) → q < 64 → (cond (over q f) (get_or us q no_load) (get_or ts q no_load) ≡ load_of q no_load (fs ++ f ∷ [])) ×
        (cond (over q f) (get_or ts q no_load) (get_or us q no_load) ≡ load_of q no_load fs)
    both q less = either (over q f) _ _ _ _ f (kept q less) (more q less) (load_push q no_load fs f)

-- and so between each two ports
pub pairs_along_each : (road : List ℕ) (us tables : List (List LoadModel)) (p q : ℕ) → Squared tables → Each (λ r. r < 64) road →
    pair_at (pairs_along road us tables) p q ≡ cond (goes p q road) (pair_at us p q) (pair_at tables p q)
unfolding pairs_along goes
pairs_along_each [] us tables p q squared known = refl
pairs_along_each (a ∷ []) us tables p q squared known = refl
pairs_along_each (a ∷ b ∷ ps) us tables p q squared known =
    pairs_along_each (b ∷ ps) us next p q (squared_put tables a b (pair_at us a b) squared) known.1 ∙ by (eqb a p) (eqb b q) refl refl
  where
    next : List (List LoadModel)
    next = put_pair tables a b (pair_at us a b)

    by : (x y : Bool) → eqb a p ≡ x → eqb b q ≡ y →
        cond (goes p q (b ∷ ps)) (pair_at us p q) (pair_at next p q) ≡ cond ((x && y) || goes p q (b ∷ ps)) (pair_at us p q) (pair_at tables p q)
    by true true first second =
        let e : a ≡ p = eqb-true a p first in
        let d : b ≡ q = eqb-true b q second in
        let here : pair_at next p q ≡ pair_at us p q =
        ap (λ x. pair_at next x q) (sym e) ∙ ap (pair_at next a) (sym d)
        ∙ put_here tables a b (pair_at us a b) squared known.0 known.1.0 ∙ ap (pair_at us a) d ∙ ap (λ x. pair_at us x q) e in
        ap (cond (goes p q (b ∷ ps)) (pair_at us p q)) here ∙ twice (goes p q (b ∷ ps)) (pair_at us p q)
    by true false first second =
        let e : a ≡ p = eqb-true a p first in
        let here : pair_at next p q ≡ pair_at tables p q =
        ap (λ x. pair_at next x q) (sym e)
        ∙ put_beside tables a b (pair_at us a b) squared known.0 known.1.0 q (λ z. eqb-false b q second (sym z)) ∙ ap (λ x. pair_at tables x q) e in
        ap (cond (goes p q (b ∷ ps)) (pair_at us p q)) here
    by false y first second =
        ap (cond (goes p q (b ∷ ps)) (pair_at us p q)) (put_elsewhere tables a b (pair_at us a b) squared known.0 known.1.0 p q (λ z. eqb-false a p first (sym z)))

pub pairs_follow_lem : PairsFollow
pairs_follow_lem tables us fs f squared squared-too known kept more = (
  λ p q first second.
      pairs_along_each f.road us tables p q squared known ∙ (both p q first second).0,
  λ p q first second.
      pairs_along_each f.road tables us p q squared-too known ∙ (both p q first second).1,
  along_squared f.road us tables squared,
  along_squared f.road tables us squared-too,
)
  where
    both : (p q : ℕ) → p < 64 → q < 64 → (cond (goes p q f.road) (pair_at us p q) (pair_at tables p q) ≡ pair_of p q no_load (fs ++ f ∷ [])) ×
        (cond (goes p q f.road) (pair_at tables p q) (pair_at us p q) ≡ pair_of p q no_load fs)
    both p q first second = either (goes p q f.road) _ _ _ _ f (kept p q first second) (more p q first second) (pair_push p q no_load fs f)
