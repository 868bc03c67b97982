-- Along a road a flow stays within what it is due. Assumes nothing.
use Rattle.std.proofs.Common.{◌≡◌, ℕ, zero, suc, ◌+◌, ◌<◌, ◌≤◌, Bool, true, false, cond, List, [], ◌∷◌, ◌++◌, map, length, get_or, sym, refl, ap, ◌∙◌, subst, inl, inr, arith}
use Rattle.std.proofs.lemmas.List.{length-map, map-append}
use Rattle.std.proofs.lemmas.Bool.{cases_Bool, cases_eq, eq-eqb, ne_eqb}
use Rattle.flows.specs.Flow.{FlowModel}
use Rattle.promises.specs.Promises.{goes, promise}
use Rattle.lines.specs.declared.packet.Packet.{Packet}
use Rattle.gates.specs.Gates.{class_of, marked}
use Rattle.gates.specs.Laws.{of_class}
use Rattle.port.specs.Port.{flow_at}
use Rattle.machine.specs.Joint.{MachineModel}
use Rattle.machine.specs.Runs.{after_open}
use Rattle.egress.specs.Egress.{GateModel, gate_at, open_one, passers_of, all_passers}
use Rattle.egress.specs.Plays.{left, came, passed, took, begins, comes, passes, takes, leaves}
use Rattle.egress.specs.Histories.{entering, entered_in, entered_at, being_sent, left_in, left_at, passed_by, passed_at, onward, beside, sent_on}
use Rattle.egress.specs.Laws.{InDue, LeavesInDue, PassesInDue, EntersInDue}
use Rattle.egress.proofs.GoesLaws.{goes_on}
use Rattle.egress.proofs.LostLaws.{nobody_lost}
use Rattle.egress.proofs.InTimeLaws.{each_in_time}
use Rattle.egress.proofs.SourceLaws.{as_many, regulators_in_order}
use Rattle.egress.proofs.CostLaws.{passed_length, costs_nothing}
use Rattle.egress.proofs.OnwardLaws.{Near, near, entered_length, left_length, left-fewer, enters-first, port_to_port}

module _ (flow : ℕ) where
  -- rows that follow each other
  front-due : (due : ℕ) (ws xs : List Packet) (ts us : List ℕ) → length ws ≡ length ts → InDue flow due (ws ++ xs) (ts ++ us) → InDue flow due ws ts
  front-due due [] xs ts us same in_due = tt
  front-due due (w ∷ ws) xs [] us same in_due = tt
  front-due due (w ∷ ws) xs (t ∷ ts) us same in_due = (in_due.0, front-due due ws xs ts us (omega arith) in_due.1)

  pub back-due : (due : ℕ) (ws xs : List Packet) (ts us : List ℕ) → length ws ≡ length ts → InDue flow due (ws ++ xs) (ts ++ us) → InDue flow due xs us
  back-due due [] xs [] us same in_due = in_due
  back-due due [] xs (t ∷ ts) us same in_due = absurd (omega arith)
  back-due due (w ∷ ws) xs [] us same in_due = absurd (omega arith)
  back-due due (w ∷ ws) xs (t ∷ ts) us same in_due = back-due due ws xs ts us (omega arith) in_due.1

  both-due : (due : ℕ) (ws xs : List Packet) (ts us : List ℕ) → length ws ≡ length ts → InDue flow due ws ts → InDue flow due xs us → InDue flow due (ws ++ xs) (ts ++ us)
  both-due due [] xs [] us same in_due also = also
  both-due due [] xs (t ∷ ts) us same in_due also = absurd (omega arith)
  both-due due (w ∷ ws) xs [] us same in_due also = absurd (omega arith)
  both-due due (w ∷ ws) xs (t ∷ ts) us same in_due also = (in_due.0, both-due due ws xs ts us (omega arith) in_due.1 also)

  -- later by so many ticks
  near-due : (due most : ℕ) (ws rest : List Packet) (ts es : List ℕ) → Near most ts es → InDue flow due (ws ++ rest) es → InDue flow (due + most) ws ts
  near-due due most [] rest ts es near in_due = tt
  near-due due most (w ∷ ws) rest [] es near in_due = tt
  near-due due most (w ∷ ws) rest (t ∷ ts) [] near in_due = absurd near
  near-due due most (w ∷ ws) rest (t ∷ ts) (e ∷ es) near in_due =
      (λ its. let before = in_due.0 its in omega (arith, near.0), near-due due most ws rest ts es near.2 in_due.1)

  later-due : (due most high : ℕ) (ws rest : List Packet) (ts es : List ℕ) → length (ws ++ rest) ≤ length es →
      ((n : ℕ) → n < length ts → get_or ts n 0 ≤ get_or es n high + most) → InDue flow due (ws ++ rest) es → InDue flow (due + most) ws ts
  later-due due most high [] rest ts es fewer late in_due = tt
  later-due due most high (w ∷ ws) rest [] es fewer late in_due = tt
  later-due due most high (w ∷ ws) rest (t ∷ ts) [] fewer late in_due = absurd (omega arith)
  later-due due most high (w ∷ ws) rest (t ∷ ts) (e ∷ es) fewer late in_due = (
    λ its. let before = in_due.0 its in let more = late 0 (omega arith) in omega arith,
    later-due due most high ws rest ts es (omega arith) (λ n h. late (suc n) (omega arith)) in_due.1,
  )

  -- those that go on
  module _ (flows : List FlowModel) (p q : ℕ) where
    pub beside-due : (due : ℕ) (ws rest : List Packet) (es : List ℕ) → InDue flow due (ws ++ rest) es → InDue flow due (onward flows p q ws) (beside flows p q ws es)
    unfolding onward beside
    beside-due due [] rest es in_due = tt
    beside-due due (w ∷ ws) rest [] in_due = none (cond (goes p q (flow_at flows w.flow).road) (w ∷ onward flows p q ws) (onward flows p q ws))
      where
        none : (xs : List Packet) → InDue flow due xs []
        none [] = tt
        none (x ∷ xs) = tt
    beside-due due (w ∷ ws) rest (e ∷ es) in_due =
        elim (cases_Bool (goes p q (flow_at flows w.flow).road)) [
          | inl on ↦ rw on (in_due.0, beside-due due ws rest es in_due.1)
          | inr off ↦ rw off (beside-due due ws rest es in_due.1)
        ]

    pub beside_length : (ws : List Packet) (es : List ℕ) → length ws ≤ length es → length (onward flows p q ws) ≤ length (beside flows p q ws es)
    unfolding onward beside
    beside_length [] es fewer = omega arith
    beside_length (w ∷ ws) [] fewer = absurd (omega arith)
    beside_length (w ∷ ws) (e ∷ es) fewer =
        let rest = beside_length ws es (omega arith) in
        elim (cases_Bool (goes p q (flow_at flows w.flow).road)) [
          | inl on ↦ rw on (omega arith)
          | inr off ↦ rw off rest
        ]

  -- a row that passes at a tick
  row-due : (due : ℕ) (classes : List ℕ) (c t : ℕ) (b : Bool) (row : List Packet) → (b ≡ false → InDue flow due row (map (λ (_ : Packet). t) row)) →
      InDue flow due (map (marked b t) (of_class classes c row)) (map (λ (_ : Packet). t) (map (marked b t) (of_class classes c row)))
  unfolding of_class
  row-due due classes c t b [] in_due = tt
  row-due due classes c t b (w ∷ row) in_due =
      let rest = row-due due classes c t b row (λ is. (in_due is).1) in
      elim (cases_eq (class_of classes w) c) [
        | inl is ↦ rw (eq-eqb (class_of classes w) c is) (first b (λ is. (in_due is).0), rest)
        | inr other ↦ rw (ne_eqb (class_of classes w) c other) rest
      ]
    where
      first : (x : Bool) → (x ≡ false → w.flow ≡ flow → t ≤ w.edge + due) → w.flow ≡ flow → t ≤ cond x t w.edge + due
      first true in_due its = omega arith
      first false in_due its = in_due refl its

  rows-due : (due : ℕ) (classes : List ℕ) (room c t : ℕ) (gs : List GateModel) (s : MachineModel) →
      ((j : ℕ) → j < length gs → (gate_at gs j).at_edge ≡ false → InDue flow due (get_or (all_passers room classes gs s) j []) (map (λ (_ : Packet). t) (get_or (all_passers room classes gs s) j []))) →
      InDue flow due (entering classes c t gs (all_passers room classes gs s)) (map (λ (_ : Packet). t) (entering classes c t gs (all_passers room classes gs s)))
  unfolding entering all_passers
  rows-due due classes room c t [] s each = tt
  rows-due due classes room c t (g ∷ gs) s each =
      let next : MachineModel = after_open s (open_one room classes g s) in
      let row : List Packet = map (marked g.at_edge t) (of_class classes c (passers_of room classes g s)) in
      let rest : List Packet = entering classes c t gs (all_passers room classes gs next) in
      subst (InDue flow due (row ++ rest)) (sym (map-append (λ (_ : Packet). t) row rest))
      (both-due due row rest (map (λ (_ : Packet). t) row) (map (λ (_ : Packet). t) rest) (sym (length-map row (λ (_ : Packet). t)))
      (row-due due classes c t g.at_edge (passers_of room classes g s) (λ is. each 0 (omega arith) is))
      (rows-due due classes room c t gs next (λ j h is. each (suc j) (omega arith) is)))

pub leaves_in_due : LeavesInDue
leaves_in_due a m e plays c flow due enough low in_due =
    let rest : List Packet = being_sent a.classes c e.machine.sending ++ get_or e.machine.queues c [] in
    near-due flow due (promise a.port c a.flows) (left_in a c plays) rest (left_at a c plays) (entered_at a c plays)
    (near (promise a.port c a.flows) (left_at a c plays) (entered_at a c plays) (left-fewer a c m e plays enough low)
    (λ i h. each_in_time a m e plays c i enough low h) (enters-first a c m e plays enough low))
    (subst (λ ws. InDue flow due ws (entered_at a c plays)) (sym (nobody_lost a m e plays c enough low)) in_due)

pub passes_in_due : PassesInDue
passes_in_due a b to k c wire flow due m n d e before plays enough also low within directed from in_due =
    let rest : List Packet = being_sent a.classes c d.machine.sending ++ get_or d.machine.queues c [] in
    let there = port_to_port a b k c wire m n d e before plays enough low from in
    let costs = (costs_nothing b n e plays to k (promise a.port c a.flows + wire) (sent_on a c b.port before) also within directed there.0).0 in
    let all : passed_by b k plays ++ (gate_at e.gates k).waits ≡ onward a.flows a.port b.port (left_in a c before) =
    regulators_in_order b n e plays k also within ∙ from.packets in
    let here = beside-due flow a.flows a.port b.port due (left_in a c before) rest (entered_at a c before)
    (subst (λ ws. InDue flow due ws (entered_at a c before)) (sym (nobody_lost a m d before c enough low)) in_due) in
    let many = beside_length flow a.flows a.port b.port (left_in a c before) (entered_at a c before)
    (omega (arith, left_length a c m d before, left-fewer a c m d before enough low)) in
    later-due flow due (promise a.port c a.flows + wire) d.machine.tick (passed_by b k plays) (gate_at e.gates k).waits (passed_at b k plays)
    (beside a.flows a.port b.port (left_in a c before) (entered_at a c before))
    (omega (arith, ap length all, many)) costs
    (subst (λ ws. InDue flow due ws (beside a.flows a.port b.port (left_in a c before) (entered_at a c before))) (sym all) here)

-- a regulator at a place
edge-at : (gs : List GateModel) (j : ℕ) → get_or (map (λ (g : GateModel). g.at_edge) gs) j false ≡ (gate_at gs j).at_edge
edge-at [] j = refl
edge-at (g ∷ gs) zero = refl
edge-at (g ∷ gs) (suc j) = edge-at gs j

pub enters_in_due : EntersInDue
unfolding entered_in entered_at passed_by passed_at
enters_in_due a _ _ begins c flow due enough each = tt
enters_in_due a _ _ (comes {e = e} cs plays some) c flow due enough each = enters_in_due a left e plays c flow due enough each
enters_in_due a _ _ (passes {e = e} plays) c flow due enough each =
    let t : ℕ = e.machine.tick in
    let rows : List (List Packet) = all_passers a.room a.classes e.gates e.machine in
    let new : List Packet = entering a.classes c t e.gates rows in
    let many = as_many a came e enough plays in
    let same = (goes_on a came e enough plays).edges in
    both-due flow due (entered_in a c plays) new (entered_at a c plays) (map (λ (_ : Packet). t) new) (sym (entered_length a c came e plays))
    (enters_in_due a came e plays c flow due enough
    (λ k h is.
    front-due flow due (passed_by a k plays) (get_or rows k []) (passed_at a k plays) (map (λ (_ : Packet). t) (get_or rows k []))
    (sym (passed_length a k came e plays)) (each k h is)))
    (rows-due flow due a.classes a.room c t e.gates e.machine
    (λ j h is.
    back-due flow due (passed_by a j plays) (get_or rows j []) (passed_at a j plays) (map (λ (_ : Packet). t) (get_or rows j []))
    (sym (passed_length a j came e plays))
    (each j (omega (arith, many)) (ap (λ es. get_or es j false) (sym same) ∙ edge-at e.gates j ∙ is))))
enters_in_due a _ _ (takes {e = e} plays clock) c flow due enough each = enters_in_due a passed e plays c flow due enough each
enters_in_due a _ _ (leaves {e = e} plays) c flow due enough each = enters_in_due a took e plays c flow due enough each
