-- A flow more along a road, port by port. Assumes nothing.
use Rattle.std.proofs.Common.{◌≡◌, ℕ, ◌+◌, ◌<◌, Bool, true, false, cond, ◌||◌, eqb, List, [], ◌∷◌, ◌++◌, length, get_or, drop, set, Some, None, sym, refl, ap, ◌∙◌, subst, inl, inr}
use Rattle.flows.specs.Flow.{FlowModel}
use Rattle.promises.specs.Loads.{LoadModel, no_load, load_with, load_of, load_fits, loads_with, loads_until}
use Rattle.promises.specs.Promises.{over}
use Rattle.promises.specs.Laws.{TableKept}
use Rattle.flows.specs.Flow.{Once}
use Rattle.flows.specs.FlowFormat.{passes}
use Rattle.std.specs.List.{AllByRecursion as Each}
use Rattle.std.proofs.lemmas.List.{get_or-set_same, get_or-set_other, length-set, at_drop_more}
use Rattle.std.proofs.lemmas.Option.{cond_some, none-some, gets, slice_get-map}
use Rattle.std.proofs.lemmas.Grind.{common_steps}
use Rattle.std.proofs.ByRecursion.{All-weaker}
use Rattle.std.proofs.lemmas.Bool.{or_from, ne_eqb, eqb-true, eqb-false, cases_Bool, cond-true, cond-false}

-- that of a port in a table, seen through a model
pub ruleset of_port = (common_steps, gets, slice_get-map)

-- A flow more of what is asked at one place: what is done next there, or where it does not fit.
module _ {A : Type 0} (f : FlowModel) (t here : LoadModel) (next : LoadModel → A) (stop : A) (is : t ≡ here) where
  pub one_more : (u : LoadModel) → Some u ≡ cond (load_fits t f) (Some (load_with t f)) None → next u ≡ cond (load_fits here f) (next (load_with here f)) stop
  one_more u got =
      let fit = cond_some (load_fits t f) (load_with t f) u (sym got) in
      ap next (sym fit.1) ∙ sym (cond-true (load_fits t f) (next (load_with t f)) stop fit.0) ∙ ap (λ x. cond (load_fits x f) (next (load_with x f)) stop) is

  pub one_full : None ≡ cond (load_fits t f) (Some (load_with t f)) None → stop ≡ cond (load_fits here f) (next (load_with here f)) stop
  one_full got = by (load_fits t f) refl got ∙ ap (λ x. cond (load_fits x f) (next (load_with x f)) stop) is
    where
      by : (b : Bool) → load_fits t f ≡ b → None ≡ cond b (Some (load_with t f)) None → stop ≡ cond (load_fits t f) (next (load_with t f)) stop
      by true fits e = absurd (none-some _ e)
      by false fits e = sym (cond-false (load_fits t f) (next (load_with t f)) stop fits)

-- A flow more at one port of a road, and at those behind it: where it does not fit, and where it does.
module _ (f : FlowModel) (ts : List LoadModel) (road : List ℕ) (i : ℕ) (more : i < length road) (t : LoadModel) (is : t ≡ get_or ts (get_or road i 0) no_load) where
  pub loads_full : None ≡ cond (load_fits t f) (Some (load_with t f)) None → (None ≡ loads_with f (drop i road) ts) × (ts ≡ loads_until f (drop i road) ts)
  unfolding loads_with loads_until
  loads_full none = (
    one_full f t _ (λ u. loads_with f (drop (i + 1) road) (set ts (get_or road i 0) u)) None is none ∙ sym (at_drop_more (λ ps. loads_with f ps ts) road i 0 more),
    one_full f t _ (λ u. loads_until f (drop (i + 1) road) (set ts (get_or road i 0) u)) ts is none ∙ sym (at_drop_more (λ ps. loads_until f ps ts) road i 0 more),
  )

  pub loads_more : (u : LoadModel) → Some u ≡ cond (load_fits t f) (Some (load_with t f)) None →
      (loads_with f (drop (i + 1) road) (set ts (get_or road i 0) u) ≡ loads_with f (drop i road) ts) ×
      (loads_until f (drop (i + 1) road) (set ts (get_or road i 0) u) ≡ loads_until f (drop i road) ts)
  unfolding loads_with loads_until
  loads_more u some = (
    one_more f t _ (λ u. loads_with f (drop (i + 1) road) (set ts (get_or road i 0) u)) None is u some ∙ sym (at_drop_more (λ ps. loads_with f ps ts) road i 0 more),
    one_more f t _ (λ u. loads_until f (drop (i + 1) road) (set ts (get_or road i 0) u)) ts is u some ∙ sym (at_drop_more (λ ps. loads_until f ps ts) road i 0 more),
  )

-- the last flow of a list is asked for last
pub load_push : (p : ℕ) (t : LoadModel) (fs : List FlowModel) (f : FlowModel) →
    load_of p t (fs ++ f ∷ []) ≡ cond (over p f) (load_with (load_of p t fs) f) (load_of p t fs)
unfolding load_of
load_push p t [] f = refl
load_push p t (g ∷ fs) f = load_push p (cond (over p g) (load_with t g) t) fs f

apart : (p : ℕ) (ps : List ℕ) → Each (λ r. r ≡ p → ⊥) ps → passes p ps ≡ false
unfolding passes
apart p [] all = refl
apart p (r ∷ ps) all = or_from (eqb p r) (passes p ps) (ne_eqb p r (λ e. all.0 (sym e))) (apart p ps all.1)

-- each port of the road is asked for more, and no other
along_places : (f : FlowModel) (ps : List ℕ) (ts us : List LoadModel) → Once ps → Each (λ p. p < length ts) ps → loads_with f ps ts ≡ Some us →
    (q : ℕ) → get_or us q no_load ≡ cond (passes q ps) (load_with (get_or ts q no_load) f) (get_or ts q no_load)
unfolding loads_with passes
along_places f [] ts us once known e q = let same : us ≡ ts = cc in ap (λ x. get_or x q no_load) same
along_places f (p ∷ ps) ts us once known e q =
    by (load_fits (get_or ts p no_load) f) refl (λ rest. along_places f ps next us once.1 still rest q)
  where
    next : List LoadModel
    next = set ts p (load_with (get_or ts p no_load) f)

    size : length next ≡ length ts
    size = length-set ts p (load_with (get_or ts p no_load) f)

    still : Each (λ r. r < length next) ps
    still = All-weaker (λ r. r < length ts) (λ r. r < length next) (λ r h. rw size h) ps known.1

    Goal : Bool → Type 0
    Goal t = get_or us q no_load ≡ cond (t || passes q ps) (load_with (get_or ts q no_load) f) (get_or ts q no_load)

    same_port : q ≡ p → get_or us q no_load ≡ cond (passes q ps) (load_with (get_or next q no_load) f) (get_or next q no_load) → Goal true
    same_port is got =
        let other : passes q ps ≡ false = ap (λ x. passes x ps) is ∙ apart p ps once.0 in
        let here : get_or next q no_load ≡ load_with (get_or ts q no_load) f =
        ap (λ x. get_or next x no_load) is ∙ get_or-set_same ts p _ no_load known.0 ∙ ap (λ x. load_with (get_or ts x no_load) f) (sym is) in
        got ∙ cond-false (passes q ps) (load_with (get_or next q no_load) f) (get_or next q no_load) other ∙ here

    other_port : (q ≡ p → ⊥) → get_or us q no_load ≡ cond (passes q ps) (load_with (get_or next q no_load) f) (get_or next q no_load) → Goal false
    other_port differs got =
        let here : get_or next q no_load ≡ get_or ts q no_load = get_or-set_other ts p q _ no_load differs in
        got ∙ ap (λ x. cond (passes q ps) (load_with x f) x) here

    by : (b : Bool) → load_fits (get_or ts p no_load) f ≡ b →
        (loads_with f ps next ≡ Some us → get_or us q no_load ≡ cond (passes q ps) (load_with (get_or next q no_load) f) (get_or next q no_load)) → Goal (eqb q p)
    by false fits more =
        let step : loads_with f (p ∷ ps) ts ≡ None = rw (fits, loads_with) refl in
        absurd (none-some us (sym step ∙ e))
    by true fits more =
        let step : loads_with f (p ∷ ps) ts ≡ loads_with f ps next = rw (fits, loads_with) refl in
        let got = more (sym step ∙ e) in
        elim (cases_Bool (eqb q p)) [
          | inl same ↦ subst Goal (sym same) (same_port (eqb-true q p same) got)
          | inr differs ↦ subst Goal (sym differs) (other_port (eqb-false q p differs) got)
        ]

pub table_kept : TableKept
table_kept ts us fs f size once known kept got q within =
    let all : Each (λ p. p < length ts) f.road = All-weaker (λ p. p < 64) (λ p. p < length ts) (λ p h. rw size h) f.road known in
    along_places f f.road ts us once all got q
    ∙ ap (λ t. cond (over q f) (load_with t f) t) (kept q within)
    ∙ sym (load_push q no_load fs f)
