-- In a class nobody is lost, and nobody overtakes. Assumes nothing.
use Rattle.std.proofs.Common.{◌≡◌, ℕ, zero, suc, ◌+◌, Bool, true, false, eqb, List, [], ◌∷◌, ◌++◌, map, replicate, get_or, set, Some, None, Option, sym, refl, ap, ◌∙◌, subst, inl, inr, arith}
use Rattle.std.specs.List.{AllByRecursion as Each}
use Rattle.std.proofs.lemmas.List.{append_assoc, append-nil, get_or_past, get_or-set_same, get_or-set_other}
use Rattle.std.proofs.lemmas.Bool.{cases_Bool, cases_eq, cases_lt, eq-eqb, ne_eqb, eqb-true}
use Rattle.lines.specs.declared.packet.Packet.{Packet}
use Rattle.queues.specs.declared.queues_of.Taken.{Taken}
use Rattle.queues.specs.declared.queues_of.Taken.TheVariants.{Packet as taken, Nothing}
use Rattle.queues.specs.Lines.{taken_from, left_by}
use Rattle.queues.proofs.QueueLaws.{first_taken, queue_laws}
use Rattle.gates.specs.Gates.{class_of, marked}
use Rattle.gates.specs.Laws.{of_class}
use Rattle.machine.specs.declared.sending.Sending.{Sending}
use Rattle.machine.specs.Phases.{begun, leaves as gone_at, goes_on as still}
use Rattle.machine.specs.Joint.{MachineModel}
use Rattle.machine.specs.Runs.{after_taking}
use Rattle.egress.specs.Egress.{GateModel, EgressModel, all_passers, pass_phase}
use Rattle.egress.specs.Plays.{Setup, Enough, Moment, left, came, passed, took, Plays, begins, comes, passes, takes, leaves}
use Rattle.egress.specs.Histories.{entering, entered_in, in_class, being_sent, gone_of, left_in}
use Rattle.egress.specs.Laws.{NobodyLost}
use Rattle.egress.proofs.GoesLaws.{goes_on}
use Rattle.egress.proofs.TickLaws.{same_sending}
use Rattle.egress.proofs.HistoryLaws.{queued_in_turn}
use Rattle.egress.proofs.RoomLaws.{eight-queues}
use Rattle.egress.proofs.PlaceLaws.{each-both}

module _ (classes : List ℕ) (class : ℕ) where
  -- those of a class
  abbrev OfClass : Packet → Type 0
  OfClass w = class_of classes w ≡ class

  row_of : (b : Bool) (tick : ℕ) (ws : List Packet) → Each OfClass (map (marked b tick) (of_class classes class ws))
  unfolding of_class
  row_of b tick [] = tt
  row_of b tick (w ∷ ws) =
      elim (cases_Bool (eqb (class_of classes w) class)) [
        | inl is ↦ rw is (eqb-true (class_of classes w) class is, row_of b tick ws)
        | inr not ↦ rw not (row_of b tick ws)
      ]

  entering-of : (tick : ℕ) (gates : List GateModel) (rows : List (List Packet)) → Each OfClass (entering classes class tick gates rows)
  unfolding entering
  entering-of tick [] rows = tt
  entering-of tick (g ∷ gs) [] = tt
  entering-of tick (g ∷ gs) (row ∷ rows) =
      each-both OfClass (map (marked g.at_edge tick) (of_class classes class row)) (entering classes class tick gs rows)
      (row_of g.at_edge tick row) (entering-of tick gs rows)

  -- the port takes
  taken-line : (s : MachineModel) (v : Taken) → s.sending ≡ None → taken_from 0 s.queues ≡ v →
      ((d : ℕ) (w : Packet) (others : List Packet) → get_or s.queues d [] ≡ w ∷ others → class_of classes w ≡ d) →
      being_sent classes class (begun s.tick v) ++ get_or (left_by s.queues) class [] ≡ get_or s.queues class []
  taken-line s (taken d w) free is its =
      let it = first_taken s.queues d w is in
      let of-d : class_of classes w ≡ d = its d w it.others it.line in
      elim (cases_eq d class) [
        | inl same ↦
            let test : eqb (class_of classes w) class ≡ true = eq-eqb (class_of classes w) class (of-d ∙ same) in
            let rest : get_or (left_by s.queues) class [] ≡ it.others =
            ap (λ qs. get_or qs class []) it.left
            ∙ ap (λ c. get_or (set s.queues d it.others) c []) (sym same)
            ∙ get_or-set_same s.queues d it.others [] it.within in
            rw test (ap (λ l. w ∷ l) rest ∙ sym it.line ∙ ap (λ c. get_or s.queues c []) same)
        | inr other ↦
            let test : eqb (class_of classes w) class ≡ false = ne_eqb (class_of classes w) class (λ e. other (sym of-d ∙ e)) in
            rw test (ap (λ qs. get_or qs class []) it.left ∙ get_or-set_other s.queues d class it.others [] (λ e. other (sym e)))
      ]
  taken-line s Nothing free is its = ap (λ qs. get_or qs class []) (queue_laws.nothing s.queues is).0

  taking-line : (s : MachineModel) (o : Option Sending) → s.sending ≡ o →
      ((d : ℕ) (w : Packet) (others : List Packet) → get_or s.queues d [] ≡ w ∷ others → class_of classes w ≡ d) →
      being_sent classes class (after_taking s o).sending ++ get_or (after_taking s o).queues class [] ≡ being_sent classes class s.sending ++ get_or s.queues class []
  taking-line s None free its =
      taken-line s (taken_from 0 s.queues) free refl its ∙ ap (λ x. being_sent classes class x ++ get_or s.queues class []) (sym free)
  taking-line s (Some x) busy its = refl

  -- the last bit leaves
  leaving-line : (t : ℕ) (o : Option Sending) → gone_of classes class (gone_at t o) ++ being_sent classes class (still (gone_at t o)) ≡ being_sent classes class o
  leaving-line t None = refl
  leaving-line t (Some x) =
      elim (cases_Bool (eqb x.until t)) [
        | inl now ↦ rw now (append-nil (in_class classes class x.packet))
        | inr later ↦ rw later refl
      ]

  -- a queue without its first
  taken-of : (s : MachineModel) (v : Taken) → taken_from 0 s.queues ≡ v → Each OfClass (get_or s.queues class []) → Each OfClass (get_or (left_by s.queues) class [])
  taken-of s (taken d w) is its =
      let it = first_taken s.queues d w is in
      elim (cases_eq d class) [
        | inl same ↦
            let rest : get_or (left_by s.queues) class [] ≡ it.others =
            ap (λ qs. get_or qs class []) it.left
            ∙ ap (λ c. get_or (set s.queues d it.others) c []) (sym same)
            ∙ get_or-set_same s.queues d it.others [] it.within in
            let all : Each OfClass (w ∷ it.others) = subst (Each OfClass) (ap (λ c. get_or s.queues c []) (sym same) ∙ it.line) its in
            subst (Each OfClass) (sym rest) all.1
        | inr other ↦
            subst (Each OfClass) (sym (ap (λ qs. get_or qs class []) it.left ∙ get_or-set_other s.queues d class it.others [] (λ e. other (sym e)))) its
      ]
  taken-of s Nothing is its = subst (λ qs. Each OfClass (get_or qs class [])) (sym (queue_laws.nothing s.queues is).0) its

  taking-of : (s : MachineModel) (o : Option Sending) → Each OfClass (get_or s.queues class []) → Each OfClass (get_or (after_taking s o).queues class [])
  taking-of s None its = taken-of s (taken_from 0 s.queues) refl its
  taking-of s (Some x) its = its

nothing-in : (n c : ℕ) → ◌≡◌ {A = List Packet} (get_or (replicate n []) c []) []
nothing-in zero c = refl
nothing-in (suc n) zero = refl
nothing-in (suc n) (suc c) = nothing-in n c

-- each queue has packets of its class
pub queues-of : (a : Setup) (m : Moment) (e : EgressModel) → Enough a → Plays a m e → (class : ℕ) →
    Each (λ w. class_of a.classes w ≡ class) (get_or e.machine.queues class [])
queues-of a _ _ enough begins class = subst (Each (λ w. class_of a.classes w ≡ class)) (sym (nothing-in 8 class)) tt
queues-of a _ _ enough (comes {e = e} cs plays some) class = queues-of a left e enough plays class
queues-of a _ _ enough (passes {e = e} plays) class =
    let before = eight-queues a e.machine enough (goes_on a came e enough plays).reached in
    let after = eight-queues a (pass_phase a.room a.classes e).machine enough (goes_on a passed (pass_phase a.room a.classes e) enough (passes plays)).reached in
    elim (cases_lt class 8) [
      | inl low ↦
          subst (Each (λ w. class_of a.classes w ≡ class)) (sym (queued_in_turn a.room a.classes e class (omega arith)))
          (each-both (λ w. class_of a.classes w ≡ class) (get_or e.machine.queues class [])
          (entering a.classes class e.machine.tick e.gates (all_passers a.room a.classes e.gates e.machine))
          (queues-of a came e enough plays class)
          (entering-of a.classes class e.machine.tick e.gates (all_passers a.room a.classes e.gates e.machine)))
      | inr past ↦
          subst (Each (λ w. class_of a.classes w ≡ class)) (sym (get_or_past (pass_phase a.room a.classes e).machine.queues class [] (omega arith))) tt
    ]
queues-of a _ _ enough (takes {e = e} plays clock) class =
    taking-of a.classes class e.machine e.machine.sending (queues-of a passed e enough plays class)
queues-of a _ _ enough (leaves {e = e} plays) class = queues-of a took e enough plays class

pub first-of : (a : Setup) (m : Moment) (e : EgressModel) → Enough a → Plays a m e → (d : ℕ) (w : Packet) (others : List Packet) →
    get_or e.machine.queues d [] ≡ w ∷ others → class_of a.classes w ≡ d
first-of a m e enough plays d w others is = (subst (Each (λ w. class_of a.classes w ≡ d)) is (queues-of a m e enough plays d)).0

pub nobody_lost : NobodyLost
unfolding left_in entered_in
nobody_lost a _ _ begins class enough low = ap (λ q. [] ++ ([] ++ q)) (nothing-in 8 class)
nobody_lost a _ _ (comes {e = e} cs plays some) class enough low = nobody_lost a left e plays class enough low
nobody_lost a _ _ (passes {e = e} plays) class enough low =
    let before = eight-queues a e.machine enough (goes_on a came e enough plays).reached in
    let all : List Packet = entering a.classes class e.machine.tick e.gates (all_passers a.room a.classes e.gates e.machine) in
    let line : List Packet = get_or e.machine.queues class [] in
    let sent : List Packet = being_sent a.classes class e.machine.sending in
    let gone : List Packet = left_in a class plays in
    ap (λ x. gone ++ (being_sent a.classes class x ++ get_or (pass_phase a.room a.classes e).machine.queues class [])) (same_sending a.room a.classes e.gates e.machine)
    ∙ ap (λ q. gone ++ (sent ++ q)) (queued_in_turn a.room a.classes e class (omega arith))
    ∙ ap (λ q. gone ++ q) (sym (append_assoc sent line all))
    ∙ sym (append_assoc gone (sent ++ line) all)
    ∙ ap (λ q. q ++ all) (nobody_lost a came e plays class enough low)
nobody_lost a _ _ (takes {e = e} plays clock) class enough low =
    ap (λ q. left_in a class plays ++ q)
    (taking-line a.classes class e.machine e.machine.sending refl (first-of a passed e enough plays))
    ∙ nobody_lost a passed e plays class enough low
nobody_lost a _ _ (leaves {e = e} plays) class enough low =
    let now = gone_at (e.machine.tick + 1) e.machine.sending in
    append_assoc (left_in a class plays) (gone_of a.classes class now) (being_sent a.classes class (still now) ++ get_or e.machine.queues class [])
    ∙ ap (λ q. left_in a class plays ++ q)
    (sym (append_assoc (gone_of a.classes class now) (being_sent a.classes class (still now)) (get_or e.machine.queues class []))
    ∙ ap (λ q. q ++ get_or e.machine.queues class []) (leaving-line a.classes class (e.machine.tick + 1) e.machine.sending))
    ∙ nobody_lost a took e plays class enough low
