-- What a plan keeps, with no flow and with one more. Assumes nothing.
use Rattle.std.proofs.Common.{◌≡◌, ℕ, zero, suc, ◌+◌, ◌-◌, ◌<◌, ◌≤◌, Bool, true, false, cond, eqb, List, [], ◌∷◌, ◌++◌, map, length, get_or, take, Some, None, vec_len, vec_items, box_value, Option, inl, inr, sym, refl, ap, ◌∙◌, subst, zero-add, arith}
use mathlib.Core.List.{map-append}
use lib.ListN.{length-map}
use Rattle.std.specs.List.{AllByRecursion as Each}
use Rattle.std.proofs.lemmas.List.{length-take-le, length_push}
use Rattle.std.proofs.lemmas.Option.{none-some}
use Rattle.std.proofs.ByRecursion.{All-push, All-weaker}
use Rattle.std.proofs.lemmas.Bool.{cond-true, false≢true}
use lib.Seq.{take-append_seam}
use Rattle.flows.specs.declared.net.Net.{Net}
use Rattle.flows.specs.declared.flow.Flow.{Flow}
use Rattle.flows.specs.Net.{NetModel, port_at}
use Rattle.flows.specs.Flow.{FlowModel, IsRoad}
use Rattle.flows.specs.Roads.{leads}
use Rattle.flows.specs.Models.{net_of, flow_of}
use Rattle.flows.proofs.LeadLaws.{leads_exactly}
use Rattle.promises.specs.declared.loads.Loads.{Loads}
use Rattle.promises.specs.declared.demand.Demand.{Demand}
use Rattle.promises.specs.Models.{load_model, loads_model, pairs_model}
use Rattle.promises.specs.Promises.{before, bursts, windowed}
use Rattle.promises.specs.Demands.{Grown}
use Rattle.promises.specs.Loads.{loads_along, pairs_along}
use Rattle.promises.specs.Laws.{Kept, PairsOf, Squared, Bounded}
use Rattle.promises.proofs.TableLaws.{table_kept}
use Rattle.promises.proofs.PairLaws.{pairs-kept}
use Rattle.promises.proofs.FollowLaws.{tables_follow, pairs_follow_lem}
use Rattle.promises.proofs.FitLaws.{sums_fit_lem, pairs_fit_lem}
use Rattle.memory.specs.Plans.{class_plan, regulator_plan, port_plan, switch_plan}
use Rattle.admission.specs.declared.plan.Plan.{Plan}
use Rattle.admission.specs.declared.refusal.Numbered.{Numbered}
use Rattle.admission.specs.declared.refusal.Refusal.{Refusal}
use Rattle.admission.specs.Models.{numbered_model}
use Rattle.admission.specs.Tests.{NumberedModel, judged}
use Rattle.admission.specs.Rules.{flows_of, Routed, Fits, refusal_of}
use Rattle.admission.specs.Sound.{keeps_demand, tried_keeps, all_roads, passes_all}
use Rattle.std.specs.Option.{is_none, option_map, MatchOption}
use Rattle.std.specs.Global.{Box}
use Rattle.admission.specs.Plans.{PlanModel, plan_of, tested}
use Rattle.admission.proofs.RuleLaws.{admission_laws}
use Rattle.admission.proofs.KeepLaws as keep

-- no flow needs no memory
class-none : (p q n : ℕ) → class_plan p q [] n ≡ 0
unfolding class_plan windowed
class-none p q zero = refl
class-none p q (suc n) = let none = class-none p q n in omega arith

regulator-none : (q n : ℕ) → regulator_plan q [] n ≡ 0
unfolding regulator_plan
regulator-none q zero = refl
regulator-none q (suc n) = let none = regulator-none q n in let class = class-none n q 8 in omega arith

switch-none : (net : NetModel) (s n : ℕ) → switch_plan net s [] n ≡ 0
unfolding switch_plan bursts
switch-none net s zero = refl
switch-none net s (suc n) =
    let none = switch-none net s n in
    let port : port_plan n [] ≡ 0 = zero-add (regulator_plan n [] 64) ∙ regulator-none n 64 in
    rw (none, port) (by (eqb (port_at net n).switch s))
  where
    by : (b : Bool) → 0 + cond b 0 0 ≡ 0
    by true = refl
    by false = refl

none-fits : (net : NetModel) → Fits net []
unfolding before
none-fits net =
    record {
      few = omega arith;
      promised = λ p less. omega arith;
      punctual = tt;
      roomy = λ s less. let none = switch-none net s (length net.ports) in omega arith;
    }

pub none_passes : (net : NetModel) → passes_all net [] ≡ true
none_passes net = ap is_none ((admission_laws.exact net []).1 (none-fits net))

-- the numbers of ports and switches in use
pub ports_count : (net : Net) → length (net_of net).ports ≡ net.count
ports_count net = length-take-le net.count net.ports net.ports_listed

pub switches_count : (net : Net) → length (net_of net).memories ≡ net.switches
switches_count net = length-take-le net.switches net.memory net.memory_listed

pub ports-few : (net : Net) → length (net_of net).ports ≤ 64
ports-few net = let e = ports_count net in let few = net.ports_few in omega arith

-- what every flow is
flow_routed : (net : NetModel) (f : Flow) → leads net (flow_of f).road ≡ true → Routed net (flow_of f)
flow_routed net f leading =
    let size = length-take-le f.hops f.road f.ports_listed in
    let some = f.hops_some in
    record {
      class_low = f.class_low;
      rate_some = f.rate_some;
      road_some = omega arith;
      route = (leads_exactly net (flow_of f).road).0 leading;
    }

flow-bounded : (f : Flow) → Bounded (flow_of f)
flow-bounded f = (f.burst_short, f.rate_whole)

all_bounded : (ns : List Numbered) → Each Bounded (flows_of (map numbered_model ns))
all_bounded [] = tt
all_bounded (n ∷ ns) = (flow-bounded n.flow, all_bounded ns)

pub all_routed : (net : NetModel) (ns : List Numbered) → all_roads net (flows_of (map numbered_model ns)) ≡ true →
    Each (Routed net) (flows_of (map numbered_model ns))
all_routed net ns is = go ns (keep.roads_each net (flows_of (map numbered_model ns)) is)
  where
    go : (ns : List Numbered) → Each (λ (f : FlowModel). leads net f.road ≡ true) (flows_of (map numbered_model ns)) →
        Each (Routed net) (flows_of (map numbered_model ns))
    go [] all = tt
    go (n ∷ ns) all = (flow_routed net n.flow all.0, go ns all.1)

flows-more : (gs : List NumberedModel) (g : NumberedModel) → flows_of (gs ++ g ∷ []) ≡ flows_of gs ++ g.flow ∷ []
flows-more gs g = map-append _ gs (g ∷ [])

rows : (tables : List Loads) (p : ℕ) → p < length tables → length (get_or (map loads_model tables) p []) ≡ 64
rows [] p less = absurd (omega arith)
rows (t ∷ tables) zero less = length-map t.ports.each load_model ∙ t.ports.all_ports
rows (t ∷ tables) (suc p) less = rows tables p (omega arith)

sizes : (d : Demand) → length (loads_model d.loads) ≡ 64
sizes d = length-map d.loads.ports.each load_model ∙ d.loads.ports.all_ports

square : (d : Demand) → Squared (pairs_model d.pairs)
square d =
    record {
      rows = length-map d.pairs.from.each loads_model ∙ d.pairs.from.all_ports;
      columns = λ p less. rows d.pairs.from.each p (omega (arith, d.pairs.from.all_ports));
    }

-- a flow that was pushed
pub pushed : (xs ys : List Numbered) (n : Numbered) → ys ≡ xs ++ n ∷ [] → map numbered_model ys ≡ map numbered_model xs ++ numbered_model n ∷ []
pushed xs ys n is = ap (map numbered_model) is ∙ map-append numbered_model xs (n ∷ [])

-- and popped again
pub popped : (xs ys : List Numbered) (n : Numbered) (k : ℕ) → ys ≡ xs ++ n ∷ [] → k ≡ length ys → take (k - 1) ys ≡ xs
popped xs ys n k is size =
    let long = length_push xs n in
    let short : length (xs ++ n ∷ []) - 1 ≡ length xs = omega arith in
    ap (λ j. take (j - 1) ys) (size ∙ ap length is) ∙ ap (take (length (xs ++ n ∷ []) - 1)) is
    ∙ ap (λ j. take j (xs ++ n ∷ [])) short ∙ take-append_seam xs (n ∷ [])

tested_on : (p : PlanModel) (g : NumberedModel) → leads p.net g.flow.road ≡ true → tested p g ≡ refusal_of p.net (p.flows ++ g ∷ [])
tested_on p g leading = cond-true (leads p.net g.flow.road) _ _ leading

-- the road that was tested
pub led : (net : NetModel) (road same : List ℕ) → road ≡ same → true ≡ leads net road → leads net same ≡ true
led net road same is leading = ap (leads net) (sym is) ∙ sym leading

-- all that a plan keeps
pub record Keeps (net : Net) (xs : List Numbered) (demand tried : Demand) : Type 0 where
  pub demand_kept : keeps_demand demand (flows_of (map numbered_model xs)) ≡ true
  pub tried_kept : keeps_demand tried (flows_of (map numbered_model xs)) ≡ true
  pub on_roads : all_roads (net_of net) (flows_of (map numbered_model xs)) ≡ true
  pub fits : passes_all (net_of net) (map numbered_model xs) ≡ true

-- what a flow is tried on is asked by the flows so far: the sums that were there, or empty ones where there are no flows
pub taken_keeps : (there : Option (Box Demand)) (taken : Box Demand) (fs : List FlowModel) → tried_keeps (option_map box_value there) fs ≡ true →
    MatchOption there (keeps_demand (box_value taken) [] ≡ true) (λ t. taken ≡ t) → keeps_demand (box_value taken) fs ≡ true
taken_keeps None taken [] kept none = none
taken_keeps None taken (f ∷ fs) kept none = absurd (false≢true kept)
taken_keeps (Some t) taken fs kept is = ap (λ b. keeps_demand (box_value b) fs) is ∙ kept

-- a plan whose flows stay as they were
pub stays_kept : (plan : Plan) (tried : Demand) (xs : List Numbered) → xs ≡ vec_items plan.flows →
    keeps_demand tried (flows_of (map numbered_model (vec_items plan.flows))) ≡ true → Keeps plan.net xs (box_value plan.demand) tried
stays_kept plan tried xs same tries =
    subst (λ ys. Keeps plan.net ys (box_value plan.demand) tried) (sym same)
    (record { demand_kept = plan.demand_kept; tried_kept = tries; on_roads = plan.on_roads; fits = plan.fits })

-- A plan, and a flow more with a road through its net.
module _ (plan : Plan) (n : Numbered) (leading : leads (net_of plan.net) (flow_of n.flow).road ≡ true) where
  abbrev net : Net
  net = plan.net

  abbrev demand : Demand
  demand = box_value plan.demand

  abbrev ns : List Numbered
  ns = vec_items plan.flows

  abbrev gs : List NumberedModel
  gs = map numbered_model ns

  abbrev fs : List FlowModel
  fs = flows_of gs

  abbrev f : FlowModel
  f = flow_of n.flow

  route : IsRoad (net_of net) f.road
  route = (leads_exactly (net_of net) f.road).0 leading

  low_ports : Each (λ p. p < 64) f.road
  low_ports =
      let few = ports-few net in
      All-weaker (λ p. p < length (net_of net).ports) (λ p. p < 64) (λ p less. omega arith) f.road route.known

  demand-kept : Kept (loads_model demand.loads) fs × PairsOf (pairs_model demand.pairs) fs
  demand-kept = keep.kept_demand demand fs plan.demand_kept

  more : flows_of (gs ++ numbered_model n ∷ []) ≡ fs ++ f ∷ []
  more = flows-more gs (numbered_model n)

  pub roads_more : all_roads (net_of net) (flows_of (gs ++ numbered_model n ∷ [])) ≡ true
  roads_more = ap (all_roads (net_of net)) more ∙ keep.roads_more (net_of net) fs f plan.on_roads leading

  -- and what the flow is tried on, which is what they ask already
  module _ (tried : Demand) (theirs : keeps_demand tried fs ≡ true) where
    tried-kept : Kept (loads_model tried.loads) fs × PairsOf (pairs_model tried.pairs) fs
    tried-kept = keep.kept_demand tried fs theirs

    -- with fewer than 256 flows no sum passes 32 bits
    pub demand_told : (d after : Demand) (len : ℕ) → d ≡ tried → len ≡ vec_len plan.flows → len < 256 → Grown d f None after → ⊥
    demand_told d after len same long few grown = by (subst (λ (x : Demand). Grown x f None after) same grown)
      where
        few-flows : length fs ≤ 255
        few-flows = let listed = plan.flows.ok.0 in let models = length-map ns numbered_model in let size = length-map gs (λ (g : NumberedModel). g.flow) in omega arith

        by : Grown tried f None after → ⊥
        by (inl (none, loads-left, pairs-left)) =
            let fit = sums_fit_lem (loads_model tried.loads) fs f (all_bounded ns) (flow-bounded n.flow) route.once low_ports few-flows tried-kept.0 in
            none-some _ (sym none ∙ fit.1)
        by (inr (all, none, left)) =
            let fit = pairs_fit_lem (pairs_model tried.pairs) fs f (all_bounded ns) (flow-bounded n.flow) route.once low_ports few-flows tried-kept.1 in
            none-some _ (sym none ∙ fit.1)

    -- what is asked with it
    module _ (start d : Demand) (same : start ≡ tried) (grown-from : Grown start f (Some tt) d) where
      grown : Grown tried f (Some tt) d
      grown = subst (λ (x : Demand). Grown x f (Some tt) d) same grown-from

      kept-more : Kept (loads_model d.loads) (fs ++ f ∷ [])
      kept-more = table_kept (loads_model tried.loads) (loads_model d.loads) fs f (sizes tried) route.once low_ports tried-kept.0 grown.0

      between-more : PairsOf (pairs_model d.pairs) (fs ++ f ∷ [])
      between-more = (pairs-kept (pairs_model tried.pairs) (pairs_model d.pairs) fs f (square tried) route.once low_ports tried-kept.1 grown.1).1

      pub sums_more : Kept (loads_model d.loads) (flows_of (gs ++ numbered_model n ∷ []))
      sums_more = subst (Kept (loads_model d.loads)) (sym more) kept-more

      pub pairs-more : PairsOf (pairs_model d.pairs) (flows_of (gs ++ numbered_model n ∷ []))
      pairs-more = subst (PairsOf (pairs_model d.pairs)) (sym more) between-more

      -- what is kept, after what was tried along the road, is of the flows with it; and what was tried, after what is kept, of those without
      grows : (after : Demand) → loads_model after.loads ≡ loads_along f.road (loads_model d.loads) (loads_model demand.loads) →
          pairs_model after.pairs ≡ pairs_along f.road (pairs_model d.pairs) (pairs_model demand.pairs) → keeps_demand after (fs ++ f ∷ []) ≡ true
      grows after loads pairs =
          keep.demand_kept after (fs ++ f ∷ [])
          (subst (λ ts. Kept ts (fs ++ f ∷ [])) (sym loads)
          (tables_follow (loads_model demand.loads) (loads_model d.loads) fs f (sizes demand) (sizes d) demand-kept.0 kept-more).0)
          (subst (λ ts. PairsOf ts (fs ++ f ∷ [])) (sym pairs)
          (pairs_follow_lem (pairs_model demand.pairs) (pairs_model d.pairs) fs f (square demand) (square d) low_ports demand-kept.1 between-more).0)

      shrinks : (after : Demand) → loads_model after.loads ≡ loads_along f.road (loads_model demand.loads) (loads_model d.loads) →
          pairs_model after.pairs ≡ pairs_along f.road (pairs_model demand.pairs) (pairs_model d.pairs) → keeps_demand after fs ≡ true
      shrinks after loads pairs =
          keep.demand_kept after fs
          (subst (λ ts. Kept ts fs) (sym loads)
          (tables_follow (loads_model demand.loads) (loads_model d.loads) fs f (sizes demand) (sizes d) demand-kept.0 kept-more).1)
          (subst (λ ts. PairsOf ts fs) (sym pairs)
          (pairs_follow_lem (pairs_model demand.pairs) (pairs_model d.pairs) fs f (square demand) (square d) low_ports demand-kept.1 between-more).1)

      -- the tests by the sums are those of the rules
      judged-more :
          judged (net_of net) net.count net.switches (loads_model d.loads) (pairs_model d.pairs) (gs ++ numbered_model n ∷ []) ≡
          refusal_of (net_of net) (gs ++ numbered_model n ∷ [])
      judged-more =
          let routed : Each (Routed (net_of net)) (flows_of (gs ++ numbered_model n ∷ [])) =
          subst (Each (Routed (net_of net))) (sym more) (All-push (Routed (net_of net)) fs f (all_routed (net_of net) ns plan.on_roads) (flow_routed (net_of net) n.flow leading)) in
          ap (λ k. judged (net_of net) k net.switches (loads_model d.loads) (pairs_model d.pairs) (gs ++ numbered_model n ∷ [])) (sym (ports_count net))
          ∙ ap (λ k. judged (net_of net) (length (net_of net).ports) k (loads_model d.loads) (pairs_model d.pairs) (gs ++ numbered_model n ∷ [])) (sym (switches_count net))
          ∙ admission_laws.judged (net_of net) (loads_model d.loads) (pairs_model d.pairs) (gs ++ numbered_model n ∷ []) (ports-few net) routed sums_more pairs-more

      -- what was judged of the flows with it is what the rules say
      pub judged-tested : (ys zs : List Numbered) → zs ≡ ys → ys ≡ ns ++ n ∷ [] → (r : Option Refusal) →
          r ≡ judged (net_of net) net.count net.switches (loads_model d.loads) (pairs_model d.pairs) (map numbered_model zs) →
          refusal_of (net_of net) (gs ++ numbered_model n ∷ []) ≡ r
      judged-tested ys zs same is r told =
          sym judged-more
          ∙ ap (judged (net_of net) net.count net.switches (loads_model d.loads) (pairs_model d.pairs)) (sym (ap (map numbered_model) same ∙ pushed ns ys n is))
          ∙ sym told

      pub tested_told : (ys zs : List Numbered) → zs ≡ ys → ys ≡ ns ++ n ∷ [] → (r : Option Refusal) →
          r ≡ judged (net_of net) net.count net.switches (loads_model d.loads) (pairs_model d.pairs) (map numbered_model zs) →
          tested (plan_of plan) (numbered_model n) ≡ r
      tested_told ys zs same is r told = tested_on (plan_of plan) (numbered_model n) leading ∙ judged-tested ys zs same is r told

    -- what is kept of the flows after a refusal, and after admission
    module _ (start d after : Demand) (same : start ≡ tried) (grown : Grown start f (Some tt) d) (xs : List Numbered) where
      pub refused_keeps : xs ≡ ns → loads_model after.loads ≡ loads_along f.road (loads_model demand.loads) (loads_model d.loads) →
          pairs_model after.pairs ≡ pairs_along f.road (pairs_model demand.pairs) (pairs_model d.pairs) → Keeps net xs demand after
      refused_keeps back loads pairs = stays_kept plan after xs back (shrinks start d same grown after loads pairs)

      pub admitted_keeps : xs ≡ ns ++ n ∷ [] → tested (plan_of plan) (numbered_model n) ≡ None →
          loads_model after.loads ≡ loads_along f.road (loads_model d.loads) (loads_model demand.loads) →
          pairs_model after.pairs ≡ pairs_along f.road (pairs_model d.pairs) (pairs_model demand.pairs) → Keeps net xs after d
      admitted_keeps is passed loads pairs =
          let models = pushed ns xs n is in
          record {
            demand_kept = ap (λ hs. keeps_demand after (flows_of hs)) models ∙ ap (keeps_demand after) more ∙ grows start d same grown after loads pairs;
            tried_kept = ap (λ hs. keeps_demand d (flows_of hs)) models ∙ keep.demand_kept d _ (sums_more start d same grown) (pairs-more start d same grown);
            on_roads = ap (λ hs. all_roads (net_of net) (flows_of hs)) models ∙ roads_more;
            fits = ap (passes_all (net_of net)) models ∙ ap is_none (sym (tested_on (plan_of plan) (numbered_model n) leading) ∙ passed);
          }
