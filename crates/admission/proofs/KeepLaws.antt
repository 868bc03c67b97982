-- The tests of a plan say that its sums are those of its flows. Assumes nothing.
use Rattle.std.proofs.Common.{◌≡◌, ℕ, zero, suc, ◌<◌, Bool, true, List, [], ◌∷◌, ◌++◌, get_or, replicate, refl, ap, ◌∙◌, inl, inr, arith}
use Rattle.std.specs.Str.{bytes_eq}
use Rattle.std.specs.List.{AllByRecursion as Each}
use Rattle.std.proofs.lemmas.Slice.Eq.{bytes_eq-Decides}
use Rattle.std.proofs.lemmas.List.{get_or-replicate}
use Rattle.std.proofs.lemmas.Bool.{and_parts, and_from, cases_lt}
use Rattle.flows.specs.Net.{NetModel}
use Rattle.flows.specs.Flow.{FlowModel}
use Rattle.flows.specs.Roads.{leads}
use Rattle.promises.specs.declared.demand.Demand.{Demand}
use Rattle.promises.specs.Models.{loads_model, pairs_model}
use Rattle.promises.specs.Loads.{LoadModel, no_load, load_of, pair_of, pair_at}
use Rattle.promises.specs.Laws.{Kept, PairsOf}
use Rattle.admission.specs.Sound.{same_load, all_below, keeps_loads, keeps_pairs, keeps_demand, all_roads}

same_load_lem : (t u : LoadModel) → same_load t u ≡ true → t ≡ u
same_load_lem t u is =
    let parts = and_parts (bytes_eq t.bursts u.bursts) _ is in
    let more = and_parts (bytes_eq t.rates u.rates) _ parts.1 in
    let b = (bytes_eq-Decides t.bursts u.bursts).0 parts.0 in
    let r = (bytes_eq-Decides t.rates u.rates).0 more.0 in
    let l = (bytes_eq-Decides t.longest u.longest).0 more.1 in
    ap (λ x. record { bursts = x; rates = t.rates; longest = t.longest }) b
    ∙ ap (λ x. record { bursts = u.bursts; rates = x; longest = t.longest }) r
    ∙ ap (λ x. record { bursts = u.bursts; rates = u.rates; longest = x }) l

load_same : (t u : LoadModel) → t ≡ u → same_load t u ≡ true
load_same t u is =
    and_from _ _ ((bytes_eq-Decides t.bursts u.bursts).1 (ap (λ (x : LoadModel). x.bursts) is))
    (and_from _ _ ((bytes_eq-Decides t.rates u.rates).1 (ap (λ (x : LoadModel). x.rates) is))
    ((bytes_eq-Decides t.longest u.longest).1 (ap (λ (x : LoadModel). x.longest) is)))

below_each : (test : ℕ → Bool) (n : ℕ) → all_below test n ≡ true → (k : ℕ) → k < n → test k ≡ true
unfolding all_below
below_each test zero is k less = absurd (omega arith)
below_each test (suc n) is k less =
    let parts = and_parts (test n) (all_below test n) is in
    elim (cases_lt k n) [
      | inl lower ↦ below_each test n parts.1 k lower
      | inr same ↦ let e : k ≡ n = omega arith in ap test e ∙ parts.0
    ]

each_below : (test : ℕ → Bool) (n : ℕ) → ((k : ℕ) → k < n → test k ≡ true) → all_below test n ≡ true
unfolding all_below
each_below test zero all = refl
each_below test (suc n) all = and_from _ _ (all n (omega arith)) (each_below test n (λ k less. all k (omega arith)))

kept_loads : (loads : List LoadModel) (fs : List FlowModel) → keeps_loads loads fs ≡ true → Kept loads fs
kept_loads loads fs is q less = same_load_lem _ _ (below_each (λ x. same_load (get_or loads x no_load) (load_of x no_load fs)) 64 is q less)

loads_kept : (loads : List LoadModel) (fs : List FlowModel) → Kept loads fs → keeps_loads loads fs ≡ true
loads_kept loads fs kept = each_below _ 64 (λ q less. load_same _ _ (kept q less))

kept-pairs : (pairs : List (List LoadModel)) (fs : List FlowModel) → keeps_pairs pairs fs ≡ true → PairsOf pairs fs
kept-pairs pairs fs is p q first second =
    same_load_lem _ _
    (below_each (λ y. same_load (pair_at pairs p y) (pair_of p y no_load fs)) 64
    (below_each (λ x. all_below (λ y. same_load (pair_at pairs x y) (pair_of x y no_load fs)) 64) 64 is p first) q second)

pairs-kept : (pairs : List (List LoadModel)) (fs : List FlowModel) → PairsOf pairs fs → keeps_pairs pairs fs ≡ true
pairs-kept pairs fs kept = each_below _ 64 (λ p first. each_below _ 64 (λ q second. load_same _ _ (kept p q first second)))

-- a demand that is that of the flows
pub kept_demand : (d : Demand) (fs : List FlowModel) → keeps_demand d fs ≡ true → Kept (loads_model d.loads) fs × PairsOf (pairs_model d.pairs) fs
kept_demand d fs is =
    let parts = and_parts (keeps_loads (loads_model d.loads) fs) _ is in
    (kept_loads _ fs parts.0, kept-pairs _ fs parts.1)

pub demand_kept : (d : Demand) (fs : List FlowModel) → Kept (loads_model d.loads) fs → PairsOf (pairs_model d.pairs) fs → keeps_demand d fs ≡ true
demand_kept d fs loads pairs = and_from _ _ (loads_kept _ fs loads) (pairs-kept _ fs pairs)

-- nothing is asked where there is no flow
none_loads : (loads : List LoadModel) → loads ≡ replicate 64 no_load → keeps_loads loads [] ≡ true
unfolding load_of
none_loads loads is = loads_kept loads [] (λ q less. ap (λ ts. get_or ts q no_load) is ∙ get_or-replicate 64 q no_load no_load less)

none-pairs : (pairs : List (List LoadModel)) → pairs ≡ replicate 64 (replicate 64 no_load) → keeps_pairs pairs [] ≡ true
unfolding pair_of
none-pairs pairs is =
    pairs-kept pairs [] (λ p q first second.
    ap (λ ts. pair_at ts p q) is
    ∙ ap (λ ts. get_or ts q no_load) (get_or-replicate 64 p (replicate 64 no_load) [] first)
    ∙ get_or-replicate 64 q no_load no_load second)

pub none_kept : (d : Demand) → loads_model d.loads ≡ replicate 64 no_load → pairs_model d.pairs ≡ replicate 64 (replicate 64 no_load) → keeps_demand d [] ≡ true
none_kept d loads pairs = and_from _ _ (none_loads _ loads) (none-pairs _ pairs)

pub roads_each : (net : NetModel) (fs : List FlowModel) → all_roads net fs ≡ true → Each (λ f. leads net f.road ≡ true) fs
unfolding all_roads
roads_each net [] is = tt
roads_each net (f ∷ fs) is =
    let parts = and_parts (leads net f.road) (all_roads net fs) is in
    (parts.0, roads_each net fs parts.1)

pub roads_more : (net : NetModel) (fs : List FlowModel) (f : FlowModel) → all_roads net fs ≡ true → leads net f.road ≡ true →
    all_roads net (fs ++ f ∷ []) ≡ true
unfolding all_roads
roads_more net [] f is leading = and_from _ _ leading refl
roads_more net (g ∷ fs) f is leading =
    let parts = and_parts (leads net g.road) (all_roads net fs) is in
    and_from _ _ parts.0 (roads_more net fs f parts.1 leading)
