-- What the flows of a plan are, and that its ports begin as the laws of a port do. Assumes nothing.
use Rattle.std.proofs.Common.{◌≡◌, ℕ, ◌<◌, ◌≤◌, true, eqb, ◌&&◌, List, [], ◌∷◌, ◌++◌, map, length, vec_items, box_value, sym, refl, ap, ◌∙◌, subst, arith, inl, inr}
use lib.ListN.{length-map}
use Rattle.std.specs.List.{list_any, AllByRecursion as Each}
use Rattle.std.proofs.ByRecursion.{All-weaker, All-append, All-get_or}
use Rattle.std.proofs.lemmas.List.{map-append}
use Rattle.std.proofs.lemmas.Bool.{false≢true, or_cases, or_left, or_right, and_parts, and_from, eqb-true, eq-eqb}
use Rattle.std.proofs.lemmas.List.Folds.{list_any-append, list_any_at}
use Rattle.flows.specs.Flow.{FlowModel}
use Rattle.flows.specs.Net.{NetModel}
use Rattle.flows.specs.Models.{net_of}
use Rattle.promises.specs.Promises.{goes, regulator_need}
use Rattle.promises.specs.Models.{loads_model, pairs_model}
use Rattle.promises.specs.Laws.{Classed, Holding, Bounded}
use Rattle.memory.specs.Plans.{Rated}
use Rattle.memory.specs.Fit.{Short, Admissible, aside_by}
use Rattle.memory.proofs.FitLaws.{aside_kept}
use Rattle.admission.specs.declared.refusal.Numbered.{Numbered}
use Rattle.admission.specs.declared.plan.Plan.{Plan}
use Rattle.admission.specs.Models.{numbered_model}
use Rattle.admission.specs.Tests.{NumberedModel}
use Rattle.admission.specs.Rules.{Routed, Fits, refusal_of}
use Rattle.admission.specs.Plans.{plan_of}
use Rattle.admission.proofs.DueLaws.{none_told}
use Rattle.admission.proofs.RuleLaws.{admission_laws, room_everywhere}
use Rattle.admission.proofs.PlanLaws.{all_routed, ports-few}
use Rattle.admission.proofs.KeepLaws.{kept_demand}
use Rattle.port.specs.Port.{no_flow, flow_at}
use Rattle.egress.specs.Egress.{GateModel}
use Rattle.egress.specs.Plays.{Setup, Plays, begins, left, at_start, empty_gates}
use Rattle.bridge.specs.Ports.{Stand, GateState, is_edge}
use Rattle.bridge.specs.Comes.{of_source, of_port}
use Rattle.bridge.specs.Runs.{gate_model, egress_of}
use Rattle.device.specs.Starts.{some_goes, edges_from, inside_before, at_rest, stands_at, port_at_start}
use Rattle.device.specs.Laws.{setup_of, PortBegins, IsNeeded, PlanLaws}
use Rattle.device.proofs.StartLaws.{models}
use Rattle.device.proofs.RegulatedLaws.{edges_there, before_there, edges_needed, before_needed}
use Rattle.device.proofs.OrderLaws.{stands_order}

-- what every flow is by its ranges
each-short : (ns : List Numbered) → Each Short (models ns)
each-short [] = tt
each-short (n ∷ ns) = (n.flow.longest_byte, each-short ns)

each-bounded : (ns : List Numbered) → Each Bounded (models ns)
each-bounded [] = tt
each-bounded (n ∷ ns) = ((n.flow.burst_short, n.flow.rate_whole), each-bounded ns)

each-holding : (ns : List Numbered) → Each Holding (models ns)
each-holding [] = tt
each-holding (n ∷ ns) = (n.flow.burst_holds, each-holding ns)

-- a road that goes from a port to another has both
goes-known : (n p q : ℕ) (road : List ℕ) → Each (λ x. x < n) road → goes p q road ≡ true → (p < n) × (q < n)
unfolding goes
goes-known n p q [] known on = absurd (false≢true on)
goes-known n p q (x ∷ []) known on = absurd (false≢true on)
goes-known n p q (x ∷ y ∷ ys) known on =
    elim (or_cases (eqb x p && eqb y q) (goes p q (y ∷ ys)) on) [
      | inl here ↦
          let parts = and_parts (eqb x p) (eqb y q) here in
          (subst (λ z. z < n) (eqb-true x p parts.0) known.0, subst (λ z. z < n) (eqb-true y q parts.1) known.1.0)
      | inr later ↦ goes-known n p q (y ∷ ys) known.1 later
    ]

some-known : (net : NetModel) (p q c : ℕ) (fs : List FlowModel) → Each (Routed net) fs → some_goes p q c fs ≡ true → q < length net.ports
some-known net p q c [] sound on = absurd (false≢true on)
some-known net p q c (f ∷ fs) sound on =
    elim (or_cases (eqb f.class c && goes p q f.road) (some_goes p q c fs) on) [
      | inl here ↦ (goes-known (length net.ports) p q f.road sound.0.route.known (and_parts (eqb f.class c) (goes p q f.road) here).1).1
      | inr later ↦ some-known net p q c fs sound.1 later
    ]

-- nobody waits at a regulator, at the edge or inside
resting : (stands : List Stand) → empty_gates (map is_edge stands) ≡ map gate_model (map at_rest stands)
resting [] = refl
resting (s ∷ stands) = ap (λ (gates : List GateModel). gate_model (at_rest s) ∷ gates) (resting stands)

-- the regulators of both kinds
pub gates_made : (at inside : List GateState) (edges behind : List Stand) → at ≡ map at_rest edges → inside ≡ map at_rest behind →
    at ++ inside ≡ map at_rest (edges ++ behind)
gates_made at inside edges behind first then =
    ap (λ xs. xs ++ inside) first ∙ ap (λ xs. map at_rest edges ++ xs) then ∙ sym (map-append at_rest edges behind)

module _ (plan : Plan) where
  abbrev net : NetModel
  net = net_of plan.net

  abbrev fs : List FlowModel
  fs = models (vec_items plan.flows)

  sound : Each (Routed net) fs
  sound = all_routed net (vec_items plan.flows) plan.on_roads

  fits : Fits net fs
  fits = (admission_laws.exact net (map numbered_model (vec_items plan.flows))).0 (none_told (refusal_of net (map numbered_model (vec_items plan.flows))) plan.fits)

  classed : Each Classed fs
  classed = All-weaker (Routed net) Classed (λ f h. h.class_low) fs sound

  rated : Each Rated fs
  rated = All-weaker (Routed net) Rated (λ f h. h.rate_some) fs sound

  admissible : Admissible fs
  admissible =
      record {
        few = fits.few;
        classed = classed;
        short = each-short (vec_items plan.flows);
        bounded = each-bounded (vec_items plan.flows);
        rated = rated;
        room = room_everywhere net fs sound fits.promised;
      }

  pub few_flows : length (vec_items plan.flows) ≤ 256
  few_flows =
      let few = fits.few in
      let all = length-map (map numbered_model (vec_items plan.flows)) (λ (g : NumberedModel). g.flow) in
      let each = length-map (vec_items plan.flows) numbered_model in
      omega arith

  -- what the sums of a plan say that a regulator needs
  pub aside_told : (p q c : ℕ) → p < length net.ports → c ≤ 7 → some_goes p q c fs ≡ true →
      aside_by (loads_model (box_value plan.demand).loads) (pairs_model (box_value plan.demand).pairs) p q c ≡ regulator_need p q c fs
  aside_told p q c first low on =
      let kept = kept_demand (box_value plan.demand) fs plan.demand_kept in
      let few = ports-few plan.net in
      let second = some-known net p q c fs sound on in
      aside_kept _ _ fs kept.0 kept.1 admissible p q c (omega arith) (omega arith) low

  port_begins : (port : ℕ) → PortBegins (plan_of plan) port
  port_begins port room here cells =
      record {
        enough =
            record {
              within = record { classed = classed; rated = rated; room = fits.promised port here };
              holding = each-holding (vec_items plan.flows);
              short = each-short (vec_items plan.flows);
              table = table;
              cells = cells;
            };
        plays = subst (Plays setup left) same begins;
      }
    where
      setup : Setup
      setup = setup_of (plan_of plan) port room

      table : length fs ≤ length setup.classes
      table =
          let all = length-map (map numbered_model (vec_items plan.flows)) (λ (g : NumberedModel). g.flow) in
          let each = length-map (map numbered_model (vec_items plan.flows)) (λ (g : NumberedModel). g.flow.class) in
          omega arith

      same : at_start setup ≡ egress_of 0 (port_at_start (plan_of plan) port)
      same = ap (λ gates. record { gates = gates; machine = (at_start setup).machine }) (resting (stands_at (plan_of plan) port))

  -- how many flows there are
  count : length fs ≡ length (plan_of plan).flows
  count = length-map (map numbered_model (vec_items plan.flows)) (λ (g : NumberedModel). g.flow)

  -- a flow that goes to the port comes from a port of the net in its class
  comes : (q port k : ℕ) → k < length fs → goes q port (flow_at fs k).road ≡ true →
      list_any (of_port q (flow_at fs k).class) (stands_at (plan_of plan) port) ≡ true
  comes q port k less on =
      let f = flow_at fs k in
      let routed = All-get_or (Routed net) fs k no_flow less sound in
      let first = (goes-known (length net.ports) q port f.road routed.route.known on).0 in
      let low = routed.class_low in
      let some : some_goes q port f.class fs ≡ true =
      list_any_at (λ (g : FlowModel). eqb g.class f.class && goes q port g.road) fs k no_flow less (and_from _ _ (eq-eqb f.class f.class refl) on) in
      list_any-append (of_port q f.class) (edges_from port 0 fs) (inside_before port fs (length net.ports))
      ∙ or_right _ _ (before_there q port f.class (length net.ports) fs first (omega arith) some)

  pub plan_laws : (port : ℕ) → PlanLaws (plan_of plan) port
  plan_laws port =
      record {
        begins = port_begins port;
        regulated =
            record {
              entering = λ k less is.
                  list_any-append (of_source k) (edges_from port 0 fs) (inside_before port fs (length net.ports))
                  ∙ or_left _ _ (edges_there port 0 k k fs (omega (arith, count)) (omega arith) is);
              coming = λ q k less on. comes q port k (omega (arith, count)) on;
              needed = All-append (IsNeeded port fs) (edges_from port 0 fs) (inside_before port fs (length net.ports)) (edges_needed port fs)
                  (before_needed port (length net.ports) fs);
              order = stands_order port (length net.ports) fs;
            };
      }
