-- Packets of a flow stay in their order, and none is lost. Assumes nothing.
use Rattle.std.proofs.Common.{◌≡◌, ℕ, ◌<◌, ◌≤◌, Bool, true, cond, eqb, List, [], ◌∷◌, ◌++◌, map, length, get_or, Some, None, Option, sym, refl, ap, ◌∙◌, subst, inl, inr}
use Rattle.std.specs.List.{AllByRecursion as Each}
use Rattle.std.proofs.ByRecursion.{All-weaker}
use Rattle.std.proofs.lemmas.List.{append_assoc, map-append}
use Rattle.std.proofs.lemmas.Bool.{cases_Bool, cases_eq, eq-eqb, ne_eqb}
use Rattle.flows.specs.Flow.{FlowModel}
use Rattle.promises.specs.Promises.{goes}
use Rattle.lines.specs.declared.packet.Packet.{Packet}
use Rattle.gates.specs.Gates.{class_of, marked}
use Rattle.gates.specs.Laws.{of_class, of_flow}
use Rattle.machine.specs.declared.sending.Sending.{Sending}
use Rattle.machine.specs.Joint.{MachineModel}
use Rattle.machine.specs.Runs.{after_open}
use Rattle.port.specs.Port.{flow_at}
use Rattle.egress.specs.Egress.{GateModel, EgressModel, Accepted, gate_at, accept_all, open_one, passers_of, all_passers, come_phase}
use Rattle.egress.specs.Plays.{Setup, Enough, Moment, left, came, passed, took, Plays, begins, comes, passes, takes, leaves}
use Rattle.egress.specs.Histories.{in_turn, entering, entered_in, being_sent as sent_in_class, left_in, came_by, passed_by, onward, Directed}
use Rattle.egress.proofs.HistoryLaws.{of_both}
use Rattle.egress.proofs.PlaceLaws.{Placed, Elsewhere, accept-placed, open-placed, row_is}
use Rattle.egress.proofs.SourceLaws.{none-at, as_many, regulators_in_order}
use Rattle.egress.proofs.LostLaws.{nobody_lost}
use Rattle.network.specs.Line.{lengths, being_sent}

pub lengths-both : (xs ys : List Packet) → lengths (xs ++ ys) ≡ lengths xs ++ lengths ys
lengths-both xs ys = map-append (λ (w : Packet). w.length) xs ys

module _ (flow : ℕ) where
  -- those that go on, and those of their class, are all of them
  pub of-onward : (fs : List FlowModel) (p q : ℕ) → goes p q (flow_at fs flow).road ≡ true → (ws : List Packet) → of_flow flow (onward fs p q ws) ≡ of_flow flow ws
  unfolding of_flow onward
  of-onward fs p q on [] = refl
  of-onward fs p q on (w ∷ ws) =
      elim (cases_eq w.flow flow) [
        | inl is ↦
            let here : goes p q (flow_at fs w.flow).road ≡ true = ap (λ k. goes p q (flow_at fs k).road) is ∙ on in
            rw (here, eq-eqb w.flow flow is) (ap (λ x. w ∷ x) (of-onward fs p q on ws))
        | inr not ↦
            elim (cases_Bool (goes p q (flow_at fs w.flow).road)) [
              | inl here ↦ rw (here, ne_eqb w.flow flow not) (of-onward fs p q on ws)
              | inr away ↦ rw (away, ne_eqb w.flow flow not) (of-onward fs p q on ws)
            ]
      ]

  pub of-own-class : (classes : List ℕ) (c : ℕ) → get_or classes flow 0 ≡ c → (ws : List Packet) → of_flow flow (of_class classes c ws) ≡ of_flow flow ws
  unfolding of_flow of_class
  of-own-class classes c its [] = refl
  of-own-class classes c its (w ∷ ws) =
      elim (cases_eq w.flow flow) [
        | inl is ↦
            let here : eqb (class_of classes w) c ≡ true = eq-eqb (class_of classes w) c (ap (λ k. get_or classes k 0) is ∙ its) in
            rw (here, eq-eqb w.flow flow is) (ap (λ x. w ∷ x) (of-own-class classes c its ws))
        | inr not ↦
            elim (cases_Bool (eqb (class_of classes w) c)) [
              | inl here ↦ rw (here, ne_eqb w.flow flow not) (of-own-class classes c its ws)
              | inr away ↦ rw (away, ne_eqb w.flow flow not) (of-own-class classes c its ws)
            ]
      ]

  of-marked : (b : Bool) (t : ℕ) (ws : List Packet) → lengths (of_flow flow (map (marked b t) ws)) ≡ lengths (of_flow flow ws)
  unfolding of_flow
  of-marked b t [] = refl
  of-marked b t (w ∷ ws) =
      elim (cases_Bool (eqb w.flow flow)) [
        | inl is ↦ rw is (ap (λ x. w.length ∷ x) (of-marked b t ws))
        | inr not ↦ rw not (of-marked b t ws)
      ]

  of-entering : (classes : List ℕ) (c : ℕ) → get_or classes flow 0 ≡ c → (room t : ℕ) (gs : List GateModel) (s : MachineModel) →
      lengths (of_flow flow (entering classes c t gs (all_passers room classes gs s))) ≡ lengths (of_flow flow (in_turn (all_passers room classes gs s)))
  unfolding entering all_passers in_turn of_flow
  of-entering classes c its room t [] s = refl
  of-entering classes c its room t (g ∷ gs) s =
      let row : List Packet = passers_of room classes g s in
      let next : MachineModel = after_open s (open_one room classes g s) in
      let rest : List Packet = entering classes c t gs (all_passers room classes gs next) in
      let others : List Packet = in_turn (all_passers room classes gs next) in
      ap lengths (of_both flow (map (marked g.at_edge t) (of_class classes c row)) rest)
      ∙ lengths-both (of_flow flow (map (marked g.at_edge t) (of_class classes c row))) (of_flow flow rest)
      ∙ ap (λ x. x ++ lengths (of_flow flow rest)) (of-marked g.at_edge t (of_class classes c row) ∙ ap lengths (of-own-class classes c its row))
      ∙ ap (λ x. lengths (of_flow flow row) ++ x) (of-entering classes c its room t gs next)
      ∙ sym (lengths-both (of_flow flow row) (of_flow flow others))
      ∙ ap lengths (sym (of_both flow row others))

  -- they wait at their regulator only
  placed : (a : Setup) (to : ℕ → ℕ) (m : Moment) (e : EgressModel) (plays : Plays a m e) → Enough a → Directed a to plays → Placed (Elsewhere flow (to flow)) e.gates
  unfolding Directed
  placed a to _ _ begins enough directed = λ j. subst (Each (Elsewhere flow (to flow) j)) (sym (none-at a.edges j)) tt
  placed a to _ _ (comes {e = e} cs plays some) enough directed =
      let many = as_many a left e enough plays in
      let same : length (accept_all cs e.gates) ≡ length e.gates = as_many a came (come_phase cs e) enough (comes cs plays some) ∙ sym many in
      accept-placed (Elsewhere flow (to flow)) cs e.gates same (placed a to left e plays enough directed.1)
      (All-weaker (λ (c : Accepted). to c.packet.flow ≡ c.gate) (λ (c : Accepted). Elsewhere flow (to flow) c.gate c.packet)
      (λ c aims is. sym aims ∙ ap to is) cs directed.0)
  placed a to _ _ (passes {e = e} plays) enough directed =
      λ j. (open-placed (Elsewhere flow (to flow)) a.room a.classes e.gates e.machine (placed a to came e plays enough directed) j).1
  placed a to _ _ (takes {e = e} plays clock) enough directed = placed a to passed e plays enough directed
  placed a to _ _ (leaves {e = e} plays) enough directed = placed a to took e plays enough directed

  of-entered : (a : Setup) (to : ℕ → ℕ) (c : ℕ) → get_or a.classes flow 0 ≡ c → (m : Moment) (e : EgressModel) (plays : Plays a m e) → Enough a → Directed a to plays →
      lengths (of_flow flow (entered_in a c plays)) ≡ lengths (of_flow flow (passed_by a (to flow) plays))
  unfolding entered_in passed_by Directed of_flow
  of-entered a to c its _ _ begins enough directed = refl
  of-entered a to c its _ _ (comes {e = e} cs plays some) enough directed = of-entered a to c its left e plays enough directed.1
  of-entered a to c its _ _ (passes {e = e} plays) enough directed =
      let rows : List (List Packet) = all_passers a.room a.classes e.gates e.machine in
      let new : List Packet = entering a.classes c e.machine.tick e.gates (all_passers a.room a.classes e.gates e.machine) in
      let row : List Packet = get_or (all_passers a.room a.classes e.gates e.machine) (to flow) [] in
      ap lengths (of_both flow (entered_in a c plays) new)
      ∙ lengths-both (of_flow flow (entered_in a c plays)) (of_flow flow new)
      ∙ ap (λ x. x ++ lengths (of_flow flow new)) (of-entered a to c its came e plays enough directed)
      ∙ ap (λ x. lengths (of_flow flow (passed_by a (to flow) plays)) ++ x) (of-entering a.classes c its a.room e.machine.tick e.gates e.machine
      ∙ ap lengths (row_is flow (to flow) rows (λ i. (open-placed (Elsewhere flow (to flow)) a.room a.classes e.gates e.machine (placed a to came e plays enough directed) i).0)))
      ∙ sym (lengths-both (of_flow flow (passed_by a (to flow) plays)) (of_flow flow row))
      ∙ ap lengths (sym (of_both flow (passed_by a (to flow) plays) row))
  of-entered a to c its _ _ (takes {e = e} plays clock) enough directed = of-entered a to c its passed e plays enough directed
  of-entered a to c its _ _ (leaves {e = e} plays) enough directed = of-entered a to c its took e plays enough directed

  of-sent : (classes : List ℕ) (c : ℕ) → get_or classes flow 0 ≡ c → (o : Option Sending) → of_flow flow (sent_in_class classes c o) ≡ of_flow flow (being_sent o)
  unfolding of_flow of_class
  of-sent classes c its None = refl
  of-sent classes c its (Some x) = of-own-class-one x.packet
    where
      of-own-class-one : (w : Packet) → of_flow flow (cond (eqb (class_of classes w) c) (w ∷ []) []) ≡ of_flow flow (w ∷ [])
      of-own-class-one w = of-own-class classes c its (w ∷ [])

  -- at a port: who came has left, is being sent, waits in the queue or behind the regulator
  pub through : (a : Setup) (to : ℕ → ℕ) (c : ℕ) → get_or a.classes flow 0 ≡ c → c ≤ 7 → (m : Moment) (e : EgressModel) (plays : Plays a m e) → Enough a → Directed a to plays →
      to flow < length a.edges →
      lengths (of_flow flow (came_by a (to flow) plays)) ≡
      lengths (of_flow flow (left_in a c plays)) ++
      lengths (of_flow flow (being_sent e.machine.sending) ++ (of_flow flow (get_or e.machine.queues c []) ++ of_flow flow (gate_at e.gates (to flow)).waits))
  through a to c its low m e plays enough directed within =
      let waits : List Packet = of_flow flow (gate_at e.gates (to flow)).waits in
      let queue : List Packet = of_flow flow (get_or e.machine.queues c []) in
      let sends : List Packet = of_flow flow (being_sent e.machine.sending) in
      let gone : List Packet = of_flow flow (left_in a c plays) in
      let inside : List Packet = sent_in_class a.classes c e.machine.sending ++ get_or e.machine.queues c [] in
      let entered : of_flow flow (entered_in a c plays) ≡ gone ++ (sends ++ queue) =
      ap (of_flow flow) (sym (nobody_lost a m e plays c enough low))
      ∙ of_both flow (left_in a c plays) inside
      ∙ ap (λ x. of_flow flow (left_in a c plays) ++ x) (of_both flow (sent_in_class a.classes c e.machine.sending) (get_or e.machine.queues c [])
      ∙ ap (λ x. x ++ of_flow flow (get_or e.machine.queues c [])) (of-sent a.classes c its e.machine.sending)) in
      ap (λ ws. lengths (of_flow flow ws)) (sym (regulators_in_order a m e plays (to flow) enough within))
      ∙ ap lengths (of_both flow (passed_by a (to flow) plays) (gate_at e.gates (to flow)).waits)
      ∙ lengths-both (of_flow flow (passed_by a (to flow) plays)) waits
      ∙ ap (λ x. x ++ lengths waits) (sym (of-entered a to c its m e plays enough directed) ∙ ap lengths entered)
      ∙ sym (lengths-both (gone ++ (sends ++ queue)) waits)
      ∙ ap lengths (append_assoc gone (sends ++ queue) waits ∙ ap (λ x. gone ++ x) (append_assoc sends queue waits))
      ∙ lengths-both gone (sends ++ (queue ++ waits))
