-- A flow that comes regularly to a regulator of its own does not wait there. Assumes nothing.
use Rattle.std.proofs.Common.{◌≡◌, ℕ, zero, suc, ◌<◌, Bool, List, [], ◌∷◌, ◌++◌, length, get_or, sym, refl, ap, ◌∙◌, subst, arith}
use Rattle.std.specs.List.{AllByRecursion as Each}
use Rattle.std.proofs.ByRecursion.{All-weaker}
use Rattle.std.proofs.lemmas.List.{length-map, append_assoc, append-nil}
use Rattle.std.proofs.lemmas.Bool.{eq-eqb}
use Rattle.lines.specs.declared.packet.Packet.{Packet}
use Rattle.lines.specs.Lines.{head_of}
use Rattle.levels.specs.Regular.{Pass, Regular}
use Rattle.levels.proofs.RowLaws.{regular_older}
use Rattle.gates.specs.Laws.{of_flow, passing}
use Rattle.port.specs.Port.{flow_at}
use Rattle.machine.specs.Joint.{MachineModel}
use Rattle.egress.specs.Egress.{GateModel, EgressModel, Accepted, gate_at, accept_all, all_passers, come_phase, pass_phase}
use Rattle.egress.specs.Plays.{Setup, Enough, empty_gates, Moment, left, came, passed, took, Plays, begins, comes, passes, takes, leaves}
use Rattle.egress.specs.Histories.{for_gate, in_turn, passed_in, came_to, came_by, passed_by, Owns, OwnRegulator}
use Rattle.egress.specs.Laws.{RegulatorsInOrder, RegularWaitsNot}
use Rattle.egress.proofs.GoesLaws.{goes_on}
use Rattle.egress.proofs.TickLaws.{same_tick}
use Rattle.egress.proofs.OrderLaws.{come_behind, all-pass-before}
use Rattle.egress.proofs.PlaceLaws.{Placed, accept-placed, open-placed, row_is}
use Rattle.egress.proofs.HistoryLaws.{pass_both, no_longer}

-- what is left of a regular history when its latest are left out
pub older-regular : (burst rate tick : ℕ) (ws : List Packet) (h : List Pass) → Regular burst rate (passing tick ws h) → Regular burst rate h
unfolding passing
older-regular burst rate tick [] h regular = regular
older-regular burst rate tick (w ∷ ws) h regular =
    regular_older burst rate (record { at = tick; len = w.length }) h
    (older-regular burst rate tick ws (record { at = tick; len = w.length } ∷ h) regular)

module _ (flow k : ℕ) where
  -- where it waits, a packet is one of the flow exactly if it waits behind this regulator
  abbrev OwnAt : ℕ → Packet → Type 0
  OwnAt j w = (w.flow ≡ flow → j ≡ k) × (j ≡ k → w.flow ≡ flow)

  all_of : (ws : List Packet) → Each (OwnAt k) ws → of_flow flow ws ≡ ws
  unfolding of_flow
  all_of [] own = refl
  all_of (w ∷ ws) own = rw (eq-eqb w.flow flow (own.0.1 refl)) (ap (λ l. w ∷ l) (all_of ws own.1))

  owned : (cs : List Accepted) → Each (Owns flow k) cs → Each (λ (c : Accepted). OwnAt c.gate c.packet) cs
  owned cs each = All-weaker (Owns flow k) (λ (c : Accepted). OwnAt c.gate c.packet) (λ c owns. (owns.all, owns.only)) cs each

  rows_are : (room : ℕ) (classes : List ℕ) (gates : List GateModel) (s : MachineModel) → Placed OwnAt gates →
      of_flow flow (in_turn (all_passers room classes gates s)) ≡ get_or (all_passers room classes gates s) k []
  rows_are room classes gates s own =
      let rows = all_passers room classes gates s in
      row_is flow k rows (λ i. All-weaker (OwnAt i) (λ w. w.flow ≡ flow → i ≡ k) (λ w its. its.0) (get_or rows i []) (open-placed OwnAt room classes gates s own i).0)
      ∙ all_of (get_or rows k []) (open-placed OwnAt room classes gates s own k).0

-- nothing waits at first
pub none-at : (edges : List Bool) (j : ℕ) → (gate_at (empty_gates edges) j).waits ≡ []
none-at [] j = refl
none-at (b ∷ bs) zero = refl
none-at (b ∷ bs) (suc j) = none-at bs j

pub as_many : (a : Setup) (m : Moment) (e : EgressModel) → Enough a → Plays a m e → length e.gates ≡ length a.edges
as_many a m e enough plays =
    sym (length-map e.gates (λ (g : GateModel). g.at_edge)) ∙ ap length (goes_on a m e enough plays).edges

-- over all ticks
pub regulators_in_order : RegulatorsInOrder
unfolding came_by passed_by
regulators_in_order a _ _ begins k enough within = none-at a.edges k
regulators_in_order a _ _ (comes {e = e} cs plays some) k enough within =
    ap (λ ws. passed_by a k plays ++ ws) (come_behind cs e.gates k (omega (arith, as_many a left e enough plays)))
    ∙ sym (append_assoc (passed_by a k plays) (gate_at e.gates k).waits (for_gate k cs))
    ∙ ap (λ ws. ws ++ for_gate k cs) (regulators_in_order a left e plays k enough within)
regulators_in_order a _ _ (passes {e = e} plays) k enough within =
    append_assoc (passed_by a k plays) (get_or (all_passers a.room a.classes e.gates e.machine) k []) (gate_at (pass_phase a.room a.classes e).gates k).waits
    ∙ ap (λ ws. passed_by a k plays ++ ws) (all-pass-before a.room a.classes e.gates e.machine k)
    ∙ regulators_in_order a came e plays k enough within
regulators_in_order a _ _ (takes {e = e} plays clock) k enough within = regulators_in_order a passed e plays k enough within
regulators_in_order a _ _ (leaves {e = e} plays) k enough within = regulators_in_order a took e plays k enough within

-- between coming and passing those who came wait, and at any other moment nobody does
abbrev Stands : Moment → List Packet → ℕ → List Pass → List Pass → Type 0
Stands left ws tick come gone = (ws ≡ []) × (come ≡ gone)
Stands came ws tick come gone = come ≡ passing tick ws gone
Stands passed ws tick come gone = (ws ≡ []) × (come ≡ gone)
Stands took ws tick come gone = (ws ≡ []) × (come ≡ gone)

module _ (a : Setup) (flow k : ℕ) (enough : Enough a) (within : k < length a.edges) where
  abbrev SoFar : (m : Moment) (e : EgressModel) → Plays a m e → Type 0
  SoFar m e plays = Placed (OwnAt flow k) e.gates × Stands m (gate_at e.gates k).waits e.machine.tick (came_to a k plays) (passed_in a flow plays)

  abbrev Even : List Pass → Type 0
  Even h = Regular (flow_at a.flows flow).burst (flow_at a.flows flow).rate h

  -- who came and passed, where one more of the flow waits at the end
  nobody_left : (e : EgressModel) (plays : Plays a came e) (ws : List Packet) → (gate_at (pass_phase a.room a.classes e).gates k).waits ≡ ws → SoFar came e plays →
      Even (came_to a k plays) → ws ≡ []
  unfolding passed_in passing
  nobody_left e plays [] is sofar even = refl
  nobody_left e plays (w ∷ ws) is sofar even =
      let row : List Packet = get_or (all_passers a.room a.classes e.gates e.machine) k [] in
      let own = (open-placed (OwnAt flow k) a.room a.classes e.gates e.machine sofar.0 k).1 in
      let its : w.flow ≡ flow = (subst (Each (OwnAt flow k k)) is own).0.1 refl in
      let order : row ++ (w ∷ ws) ≡ (gate_at e.gates k).waits = ap (λ x. get_or (all_passers a.room a.classes e.gates e.machine) k [] ++ x) (sym is) ∙ all-pass-before a.room a.classes e.gates e.machine k in
      let all : came_to a k plays ≡ passing e.machine.tick ws (record { at = e.machine.tick; len = w.length } ∷ passing e.machine.tick row (passed_in a flow plays)) =
      sofar.1 ∙ ap (λ x. passing e.machine.tick x (passed_in a flow plays)) (sym order) ∙ pass_both e.machine.tick row (w ∷ ws) (passed_in a flow plays) in
      let until : Even (record { at = e.machine.tick; len = w.length } ∷ passing e.machine.tick row (passed_in a flow plays)) =
      older-regular (flow_at a.flows flow).burst (flow_at a.flows flow).rate e.machine.tick ws (record { at = e.machine.tick; len = w.length } ∷ passing e.machine.tick row (passed_in a flow plays))
      (subst Even all even) in
      let gone : passed_in a flow (passes plays) ≡ passing e.machine.tick row (passed_in a flow plays) =
      ap (λ x. passing e.machine.tick x (passed_in a flow plays)) (rows_are flow k a.room a.classes e.gates e.machine sofar.0) in
      let now : Even (record { at = (pass_phase a.room a.classes e).machine.tick; len = w.length } ∷ passed_in a flow (passes plays)) =
      subst (λ t. Even (record { at = t; len = w.length } ∷ passed_in a flow (passes plays))) (sym (same_tick a.room a.classes e.gates e.machine))
      (subst (λ h. Even (record { at = e.machine.tick; len = w.length } ∷ h)) (sym gone) until) in
      absurd
      (no_longer a (pass_phase a.room a.classes e) (passes plays) k w enough (ap head_of is)
      (subst
      (λ f. Regular (flow_at a.flows f).burst (flow_at a.flows f).rate (record { at = (pass_phase a.room a.classes e).machine.tick; len = w.length } ∷ passed_in a f (passes plays)))
      (sym its) now))

  so_far : (m : Moment) (e : EgressModel) (plays : Plays a m e) → OwnRegulator a flow k plays → Even (came_to a k plays) → SoFar m e plays
  unfolding passed_in came_to OwnRegulator passing
  so_far _ _ begins own even = (λ j. subst (Each (OwnAt flow k j)) (sym (none-at a.edges j)) tt, (none-at a.edges k, refl))
  so_far _ _ (comes {e = e} cs plays some) own even =
      let before = so_far left e plays own.1
      (older-regular (flow_at a.flows flow).burst (flow_at a.flows flow).rate e.machine.tick (for_gate k cs) (came_to a k plays) even) in
      let many = as_many a left e enough plays in
      let same : length (accept_all cs e.gates) ≡ length e.gates = as_many a came (come_phase cs e) enough (comes cs plays some) ∙ sym many in
      let waits : (gate_at (accept_all cs e.gates) k).waits ≡ for_gate k cs =
      come_behind cs e.gates k (omega (arith, many)) ∙ ap (λ ws. ws ++ for_gate k cs) before.1.0 in (
        accept-placed (OwnAt flow k) cs e.gates same before.0 (owned flow k cs own.0),
        ap (passing e.machine.tick (for_gate k cs)) before.1.1 ∙ ap (λ ws. passing e.machine.tick ws (passed_in a flow plays)) (sym waits),
      )
  so_far _ _ (passes {e = e} plays) own even =
      let before = so_far came e plays own even in
      let none = nobody_left e plays (gate_at (pass_phase a.room a.classes e).gates k).waits refl before even in
      let row : List Packet = get_or (all_passers a.room a.classes e.gates e.machine) k [] in
      let order : (gate_at e.gates k).waits ≡ row =
      sym (all-pass-before a.room a.classes e.gates e.machine k) ∙ ap (λ x. get_or (all_passers a.room a.classes e.gates e.machine) k [] ++ x) none ∙ append-nil row in (
        λ j. (open-placed (OwnAt flow k) a.room a.classes e.gates e.machine before.0 j).1,
        (
          none,
          before.1
              ∙ ap (λ x. passing e.machine.tick x (passed_in a flow plays)) (order ∙ sym (rows_are flow k a.room a.classes e.gates e.machine before.0)),
        ),
      )
  so_far _ _ (takes {e = e} plays clock) own even = so_far passed e plays own even
  so_far _ _ (leaves {e = e} plays) own even = so_far took e plays own even

pub regular_waits_not : RegularWaitsNot
regular_waits_not a e plays flow k enough within own even =
    let stands = (so_far a flow k enough within passed e plays own even).1 in (sym stands.1, stands.0)
