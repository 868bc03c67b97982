-- A flow that is found in a plan by its number, and what it is due. Assumes nothing.
use Rattle.std.proofs.Common.{◌≡◌, ℕ, Bool, true, false, cond, eqb, ◌==◌, List, [], ◌∷◌, map, Some, None, vec_items, box_value, Option, sym, refl, ap, ◌∙◌, subst}
use Rattle.std.specs.List.{AllByRecursion as Each}
use Rattle.std.specs.List.{find}
use Rattle.std.specs.Option.{option_map, is_none}
use Rattle.std.proofs.lemmas.Option.{none-some}
use Rattle.std.proofs.lemmas.Bool.{false≢true}
use Rattle.flows.specs.declared.flow.Flow.{Flow}
use Rattle.flows.specs.Flow.{FlowModel}
use Rattle.flows.specs.Models.{net_of, flow_of}
use Rattle.promises.specs.Loads.{loads_dues}
use Rattle.promises.specs.Models.{loads_model}
use Rattle.promises.specs.Promises.{dues}
use Rattle.admission.specs.declared.plan.Plan.{Plan}
use Rattle.admission.specs.declared.refusal.Numbered.{Numbered}
use Rattle.admission.specs.declared.refusal.Refusal.{Refusal}
use Rattle.admission.specs.Models.{numbered_model}
use Rattle.admission.specs.Tests.{NumberedModel}
use Rattle.admission.specs.Rules.{flows_of, Routed, refusal_of}
use Rattle.admission.specs.Plans.{plan_of}
use Rattle.admission.specs.Dues.{flow_numbered, dues_in, dues_numbered}
use Rattle.admission.proofs.KeepLaws.{kept_demand}
use Rattle.admission.proofs.PlanLaws.{ports-few, all_routed}
use Rattle.admission.proofs.RuleLaws.{all_both, Among, each_among, room_everywhere, dues_same, admission_laws}

-- what a search through flows finds
pub number_find : (n : ℕ) (ns : List Numbered) →
    option_map (λ (m : Numbered). flow_of m.flow) (find (λ (m : Numbered). m.number == n) ns) ≡ flow_numbered (map numbered_model ns) n
unfolding flow_numbered
number_find n [] = refl
number_find n (m ∷ ns) = by (m.number == n) (number_find n ns)
  where
    by : (b : Bool) →
        option_map (λ (k : Numbered). flow_of k.flow) (find (λ (k : Numbered). k.number == n) ns) ≡ flow_numbered (map numbered_model ns) n →
        option_map (λ (k : Numbered). flow_of k.flow) (cond b (Some m) (find (λ (k : Numbered). k.number == n) ns)) ≡
        cond b (Some (flow_of m.flow)) (flow_numbered (map numbered_model ns) n)
    by true more = refl
    by false more = more

-- the flow of what was found
pub flow_found : (o : Option Numbered) → option_map flow_of (option_map (λ (m : Numbered). m.flow) o) ≡ option_map (λ (m : Numbered). flow_of m.flow) o
flow_found None = refl
flow_found (Some m) = refl

-- what holds of all flows holds of the one that is found
found_too : (P : FlowModel → Type 0) (gs : List NumberedModel) (n : ℕ) (f : FlowModel) → Each P (flows_of gs) →
    flow_numbered gs n ≡ Some f → P f
unfolding flow_numbered
found_too P [] n f all e = absurd (none-some f e)
found_too P (g ∷ gs) n f all e = by (eqb g.number n) e (found_too P gs n f all.1)
  where
    by : (b : Bool) → cond b (Some g.flow) (flow_numbered gs n) ≡ Some f → (flow_numbered gs n ≡ Some f → P f) → P f
    by true got more = let same : g.flow ≡ f = cc in subst P same all.0
    by false got more = more got

pub none_told : (o : Option Refusal) → is_none o ≡ true → o ≡ None
none_told None is = refl
none_told (Some r) is = absurd (false≢true is)

-- what a flow of a plan is due, by the sums that the plan keeps and by its flows
module _ (plan : Plan) where
  abbrev gs : List NumberedModel
  gs = map numbered_model (vec_items plan.flows)

  abbrev fs : List FlowModel
  fs = flows_of gs

  abbrev Same : FlowModel → Type 0
  Same f = loads_dues (net_of plan.net) (loads_model (box_value plan.demand).loads) f.class 0 f.road ≡ Some (dues (net_of plan.net) fs f.class 0 f.road)

  plan-dues : Each Same fs
  plan-dues =
      let net = net_of plan.net in
      let sound = all_routed net (vec_items plan.flows) plan.on_roads in
      let fits = (admission_laws.exact net gs).0 (none_told (refusal_of net gs) plan.fits) in
      all_both (Routed net) (Among fs) Same
      (dues_same net fs sound (loads_model (box_value plan.demand).loads) (ports-few plan.net) (kept_demand (box_value plan.demand) fs plan.demand_kept).0
      (room_everywhere net fs sound fits.promised))
      fs sound (each_among fs)

  module _ (n : ℕ) (f : Flow) (found : Some (flow_of f) ≡ flow_numbered gs n) where
    same : Same (flow_of f)
    same = found_too Same gs n (flow_of f) plan-dues (sym found)

    pub dues_told : None ≡ loads_dues (net_of plan.net) (loads_model (box_value plan.demand).loads) f.class 0 (flow_of f).road → ⊥
    dues_told none = none-some _ (none ∙ same)

    pub dues-found : (ts : List ℕ) → Some ts ≡ loads_dues (net_of plan.net) (loads_model (box_value plan.demand).loads) f.class 0 (flow_of f).road →
        Some (record { road = (flow_of f).road; ticks = ts }) ≡ dues_numbered (plan_of plan) n
    dues-found ts is =
        ap (option_map (λ us. record { road = (flow_of f).road; ticks = us })) (is ∙ same) ∙ ap (option_map (dues_in (plan_of plan))) found
