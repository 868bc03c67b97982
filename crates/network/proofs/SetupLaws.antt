-- A port of a net in which the flows fit has enough. Assumes nothing.
use Rattle.std.proofs.Common.{◌≡◌, ℕ, ◌+◌, ◌-◌, ◌*◌, ◌/◌, ◌%◌, ◌<◌, ◌≤◌, Bool, true, false, List, [], ◌∷◌, ◌++◌, map, length, replicate, get_or, sym, refl, ap, ◌∙◌, inl, inr, arith, length-append}
use Rattle.std.specs.List.{AllByRecursion as Each}
use Rattle.std.proofs.ByRecursion.{All-weaker}
use Rattle.std.proofs.lemmas.List.{length-map, length-replicate, get_or-map, get_or-replicate, get_or_append_left, get_or-append-add}
use Rattle.std.proofs.lemmas.Bool.{cases_lt}
use Rattle.flows.specs.Net.{NetModel}
use Rattle.flows.specs.Flow.{FlowModel, SoundFlow}
use Rattle.admission.specs.Rules.{Fits}
use Rattle.flows.specs.FlowFormat.{passes}
use Rattle.promises.specs.Promises.{den, before, rates}
use Rattle.promises.specs.Laws.{Classed, Holding}
use Rattle.memory.specs.Plans.{Rated}
use Rattle.port.specs.Port.{flow_at, no_flow}
use Rattle.egress.specs.Plays.{Short, Enough}
use Rattle.network.proofs.RoadLaws.{past-none}
use Rattle.network.specs.Network.{inner_gate, edges_of, setup_of}

-- a port that the net has not is promised nothing
none-past : (net : NetModel) (fs : List FlowModel) (p c : ℕ) → Each (SoundFlow net) fs → length net.ports ≤ p → before p c fs ≡ 0
unfolding before
none-past net [] p c sound past = refl
none-past net (f ∷ fs) p c sound past =
    let off : passes p f.road ≡ false = past-none (length net.ports) p f.road past sound.0.route.known in
    let rest = none-past net fs p c sound.1 past in
    rw off (omega arith)

whole : (net : NetModel) (fs : List FlowModel) → Each (SoundFlow net) fs → Fits net fs → (p : ℕ) → rates p fs ≤ den
whole net fs sound fits p =
    elim (cases_lt p (length net.ports)) [
      | inl known ↦ fits.promised p known
      | inr past ↦ omega (arith, none-past net fs p 8 sound past)
    ]

pub enough : (net : NetModel) (fs : List FlowModel) → Each (SoundFlow net) fs → Fits net fs → (p : ℕ) → Enough (setup_of net fs p)
enough net fs sound fits p =
    record {
      within =
          record {
            classed = All-weaker (SoundFlow net) Classed (λ f s. s.ranges.class_low) fs sound;
            rated = All-weaker (SoundFlow net) Rated (λ f s. s.ranges.rate_some) fs sound;
            room = whole net fs sound fits p;
          };
      holding = All-weaker (SoundFlow net) Holding (λ f s. s.ranges.burst_holds) fs sound;
      short = All-weaker (SoundFlow net) Short (λ f s. s.ranges.longest_byte) fs sound;
      table = omega (arith, length-map fs (λ (f : FlowModel). f.class));
      cells = omega arith;
    }

-- a regulator that is not at the edge is that of a port before and a class
pub record Inner (net : NetModel) (fs : List FlowModel) (k : ℕ) : Type 0 where
  pub port : ℕ
  pub class : ℕ
  pub known : port < length net.ports
  pub low : class ≤ 7
  pub place : k ≡ inner_gate fs port class

past : (n k : ℕ) (bs : List Bool) → get_or (replicate n true ++ bs) k false ≡ false → n ≤ k
past n k bs not =
    elim (cases_lt k n) [
      | inl less ↦
          let never : true ≡ false =
          sym (get_or_append_left (replicate n true) bs false k (omega (arith, length-replicate n true, less)) ∙ get_or-replicate n k true false less) ∙ not in
          cc
      | inr more ↦ more
    ]

pub inner : (net : NetModel) (fs : List FlowModel) (k : ℕ) → k < length (edges_of net fs) → get_or (edges_of net fs) k false ≡ false → Inner net fs k
inner net fs k within not =
    let behind = past (length fs) k (replicate (8 * length net.ports) false) not in
    let many : k < length fs + 8 * length net.ports =
    omega (arith, within, length-append (replicate (length fs) true) (replicate (8 * length net.ports) false), length-replicate (length fs) true, length-replicate (8 * length net.ports) false) in
    record {
      port = (k - length fs) / 8;
      class = (k - length fs) % 8;
      known = omega arith;
      low = omega arith;
      place = omega arith;
    }

-- the class of a flow, in the table
pub class_there : (fs : List FlowModel) (flow : ℕ) → flow < length fs → get_or (map (λ (f : FlowModel). f.class) fs) flow 0 ≡ (flow_at fs flow).class
class_there fs flow known = get_or-map (λ (f : FlowModel). f.class) fs flow no_flow 0 known

-- the regulators of a port: how many, and which stand at the edge
pub many_gates : (net : NetModel) (fs : List FlowModel) → length (edges_of net fs) ≡ length fs + 8 * length net.ports
many_gates net fs =
    omega (arith, length-append (replicate (length fs) true) (replicate (8 * length net.ports) false), length-replicate (length fs) true, length-replicate (8 * length net.ports) false)

pub edge_there : (net : NetModel) (fs : List FlowModel) (flow : ℕ) → flow < length fs → get_or (edges_of net fs) flow false ≡ true
edge_there net fs flow listed =
    get_or_append_left (replicate (length fs) true) (replicate (8 * length net.ports) false) false flow (omega (arith, length-replicate (length fs) true, listed))
    ∙ get_or-replicate (length fs) flow true false listed

pub inner_there : (net : NetModel) (fs : List FlowModel) (p c : ℕ) → p < length net.ports → c ≤ 7 → get_or (edges_of net fs) (inner_gate fs p c) false ≡ false
inner_there net fs p c known low =
    ap (λ n. get_or (edges_of net fs) (n + (8 * p + c)) false) (sym (length-replicate (length fs) true))
    ∙ get_or-append-add (replicate (length fs) true) (replicate (8 * length net.ports) false) (8 * p + c) false
    ∙ get_or-replicate (8 * length net.ports) (8 * p + c) false false (omega arith)
