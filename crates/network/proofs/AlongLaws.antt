-- Along its road each packet keeps to what its flow is due. Assumes nothing.
use Rattle.std.proofs.Common.{◌≡◌, ℕ, suc, ◌+◌, ◌-◌, ◌<◌, ◌≤◌, true, List, [], ◌∷◌, ◌++◌, length, get_or, sym, refl, ap, ◌∙◌, subst, ◌⊎◌, inl, inr, arith, append_assoc}
use Rattle.std.specs.List.{AllByRecursion as Each}
use Rattle.std.proofs.ByRecursion.{All-get_or}
use Rattle.std.proofs.lemmas.Bool.{cases_Bool, cases_eq, eq-eqb, ne_eqb}
use Rattle.flows.specs.Net.{NetModel, port_at}
use Rattle.flows.specs.Flow.{FlowModel, SoundFlow}
use Rattle.promises.specs.Promises.{goes, promise, due_over}
use Rattle.admission.specs.Rules.{Fits}
use Rattle.lines.specs.declared.packet.Packet.{Packet}
use Rattle.gates.specs.Gates.{class_of}
use Rattle.machine.specs.declared.leaving.Leaving.{Leaving}
use Rattle.machine.specs.declared.leaving.Leaving.TheVariants.{Gone, Busy, Idle}
use Rattle.machine.specs.Phases.{leaves as gone_at}
use Rattle.port.specs.Port.{flow_at}
use Rattle.egress.specs.Egress.{EgressModel, gate_at}
use Rattle.egress.specs.Plays.{Setup, Moment, left, Plays, begins, comes, passes, takes, leaves}
use Rattle.egress.specs.Histories.{being_sent, gone_of, entered_in, entered_at, left_in, left_at, came_by, passed_by, passed_at, onward, beside, sent_on}
use Rattle.egress.specs.Laws.{InDue}
use Rattle.egress.proofs.PlaceLaws.{each-both, each-apart}
use Rattle.egress.proofs.SourceLaws.{regulators_in_order}
use Rattle.egress.proofs.LostLaws.{nobody_lost}
use Rattle.egress.proofs.LateLaws.{nobody_late}
use Rattle.egress.proofs.OnwardLaws.{entered_length, left_length, left-fewer, port_to_port}
use Rattle.egress.proofs.CostLaws.{costs_nothing}
use Rattle.egress.proofs.DueLaws.{beside-due, beside_length, leaves_in_due, passes_in_due, enters_in_due}
use Rattle.network.specs.Network.{starts, inner_gate, gate_of, setup_of}
use Rattle.network.specs.Laws.{Together, AlongRoads, RoadsOnTime, RegulatorsOnTime}
use Rattle.network.proofs.RoadLaws.{goes_next, starts_none, goes_once}
use Rattle.network.proofs.SetupLaws.{enough, Inner, inner, class_there, many_gates}

-- what leaves is of the class
gone_class : (classes : List ℕ) (c : ℕ) (l : Leaving) → Each (λ w. class_of classes w ≡ c) (gone_of classes c l)
gone_class classes c (Gone w) =
    elim (cases_eq (class_of classes w) c) [
      | inl is ↦ rw (eq-eqb (class_of classes w) c is) (is, tt)
      | inr other ↦ rw (ne_eqb (class_of classes w) c other) tt
    ]
gone_class classes c (Busy x) = tt
gone_class classes c Idle = tt

pub left_class : (a : Setup) (c : ℕ) (m : Moment) (e : EgressModel) (plays : Plays a m e) → Each (λ w. class_of a.classes w ≡ c) (left_in a c plays)
unfolding left_in
left_class a c _ _ begins = tt
left_class a c _ _ (comes {e = e} cs plays some) = left_class a c left e plays
left_class a c _ _ (passes {e = e} plays) = left_class a c Moment.came e plays
left_class a c _ _ (takes {e = e} plays clock) = left_class a c Moment.passed e plays
left_class a c _ _ (leaves {e = e} plays) =
    each-both (λ w. class_of a.classes w ≡ c) (left_in a c plays) (gone_of a.classes c (gone_at (e.machine.tick + 1) e.machine.sending))
    (left_class a c Moment.took e plays) (gone_class a.classes c (gone_at (e.machine.tick + 1) e.machine.sending))

-- those that go on, of whom this holds
pub onward-each : (P : Packet → Type 0) (fs : List FlowModel) (p q : ℕ) (ws : List Packet) → Each P ws →
    Each (λ w. P w × (goes p q (flow_at fs w.flow).road ≡ true)) (onward fs p q ws)
unfolding onward
onward-each P fs p q [] each = tt
onward-each P fs p q (w ∷ ws) each =
    elim (cases_Bool (goes p q (flow_at fs w.flow).road)) [
      | inl on ↦ rw on ((each.0, on), onward-each P fs p q ws each.1)
      | inr off ↦ rw off (onward-each P fs p q ws each.1)
    ]

-- where none is of the flow
none-due : (flow due : ℕ) (P : Packet → Type 0) → ((w : Packet) → P w → w.flow ≡ flow → ⊥) → (ws : List Packet) (ts : List ℕ) → Each P ws → InDue flow due ws ts
none-due flow due P other [] ts each = tt
none-due flow due P other (w ∷ ws) [] each = tt
none-due flow due P other (w ∷ ws) (t ∷ ts) each = (λ its. absurd (other w each.0 its), none-due flow due P other ws ts each.1)

-- those behind the ones that have left
still_due : (flow due most tick : ℕ) (ws rest : List Packet) (es : List ℕ) → length (ws ++ rest) ≡ length es → InDue flow due (ws ++ rest) es →
    ((n : ℕ) → length ws ≤ n → n < length es → tick < get_or es n 0 + most) → Each (λ w. w.flow ≡ flow → tick < w.edge + (due + most)) rest
still_due flow due most tick [] [] es same in_due late = tt
still_due flow due most tick [] (w ∷ rest) [] same in_due late = absurd (omega arith)
still_due flow due most tick [] (w ∷ rest) (e ∷ es) same in_due late = (
  λ its. let before = in_due.0 its in let now = late 0 (omega arith) (omega arith) in omega arith,
  still_due flow due most tick [] rest es (omega arith) in_due.1 (λ n above below. late (suc n) (omega arith) (omega arith)),
)
still_due flow due most tick (w ∷ ws) rest [] same in_due late = absurd (omega arith)
still_due flow due most tick (w ∷ ws) rest (e ∷ es) same in_due late =
    still_due flow due most tick ws rest es (omega arith) in_due.1 (λ n above below. late (suc n) (omega arith) (omega arith))

-- and those behind the ones that have passed
waits_due : (flow due most tick high : ℕ) (ws rest : List Packet) (es : List ℕ) → length (ws ++ rest) ≤ length es → InDue flow due (ws ++ rest) es →
    ((n : ℕ) → length ws ≤ n → n < length (ws ++ rest) → tick ≤ get_or es n high + most) → Each (λ w. w.flow ≡ flow → tick ≤ w.edge + (due + most)) rest
waits_due flow due most tick high [] [] es fewer in_due late = tt
waits_due flow due most tick high [] (w ∷ rest) [] fewer in_due late = absurd (omega arith)
waits_due flow due most tick high [] (w ∷ rest) (e ∷ es) fewer in_due late = (
  λ its. let before = in_due.0 its in let now = late 0 (omega arith) (omega arith) in omega arith,
  waits_due flow due most tick high [] rest es (omega arith) in_due.1 (λ n above below. late (suc n) (omega arith) (omega arith)),
)
waits_due flow due most tick high (w ∷ ws) rest [] fewer in_due late = absurd (omega arith)
waits_due flow due most tick high (w ∷ ws) rest (e ∷ es) fewer in_due late =
    waits_due flow due most tick high ws rest es (omega arith) in_due.1 (λ n above below. late (suc n) (omega arith) (omega arith))

-- the first port of the rest of a road
abbrev pub head_or : ℕ → List ℕ → ℕ
head_or p [] = p
head_or p (x ∷ xs) = x

module _ (net : NetModel) (fs : List FlowModel) (last : ℕ) (port : ℕ → ℕ → EgressModel) (run : Together net fs last port)
    (sound : Each (SoundFlow net) fs) (fits : Fits net fs) (flow : ℕ) (listed : flow < length fs) where
  abbrev its : FlowModel
  its = flow_at fs flow

  sure : SoundFlow net (flow_at fs flow)
  sure = All-get_or (SoundFlow net) fs flow _ listed sound

  abbrev Enters : ℕ → ℕ → Type 0
  Enters p due =
      (t : ℕ) (until : t ≤ last) →
      InDue flow due (entered_in (setup_of net fs p) (flow_at fs flow).class (run.plays t p until)) (entered_at (setup_of net fs p) (flow_at fs flow).class (run.plays t p until))

  abbrev Leaves : ℕ → ℕ → Type 0
  Leaves p due =
      (t : ℕ) (until : t ≤ last) →
      InDue flow due (left_in (setup_of net fs p) (flow_at fs flow).class (run.plays t p until)) (left_at (setup_of net fs p) (flow_at fs flow).class (run.plays t p until))

  out : (p due : ℕ) → p < length net.ports → Enters p due → Leaves p (due + promise p (flow_at fs flow).class fs)
  out p due known enters t until =
      leaves_in_due (setup_of net fs p) left (port t p) (run.plays t p until) (flow_at fs flow).class flow due (enough net fs sound fits p) sure.ranges.class_low
      (enters t until)

  -- of a regulator whose packets are of other flows
  others : (due t q p c : ℕ) (until : t ≤ last) → q < length net.ports → p < length net.ports → c ≤ 7 →
      inner_gate fs p c < length (setup_of net fs q).edges →
      (goes p q (flow_at fs flow).road ≡ true → (flow_at fs flow).class ≡ c → ⊥) →
      InDue flow due (passed_by (setup_of net fs q) (inner_gate fs p c) (run.plays t q until)) (passed_at (setup_of net fs q) (inner_gate fs p c) (run.plays t q until))
  others due t q p c until known also low within not =
      let sooner : t - suc (port_at net p).wire ≤ last = omega arith in
      let from = run.comes t p q c until sooner also low in
      let before = run.plays (t - suc (port_at net p).wire) p sooner in
      none (onward-each (λ w. class_of (setup_of net fs p).classes w ≡ c) fs p q (left_in (setup_of net fs p) c before) (left_class (setup_of net fs p) c left (port (t - suc (port_at net p).wire) p) before))
      from.packets
    where
      none : {ws : List Packet} → Each (λ w. (class_of (setup_of net fs p).classes w ≡ c) × (goes p q (flow_at fs w.flow).road ≡ true)) ws →
          came_by (setup_of net fs q) (inner_gate fs p c) (run.plays t q until) ≡ ws →
          InDue flow due (passed_by (setup_of net fs q) (inner_gate fs p c) (run.plays t q until)) (passed_at (setup_of net fs q) (inner_gate fs p c) (run.plays t q until))
      none each same =
          none-due flow due (λ w. (class_of (setup_of net fs p).classes w ≡ c) × (goes p q (flow_at fs w.flow).road ≡ true))
          (λ w of is. not (ap (λ k. goes p q (flow_at fs k).road) (sym is) ∙ of.1) (sym (class_there fs flow listed) ∙ ap (λ k. get_or (setup_of net fs p).classes k 0) (sym is) ∙ of.0))
          (passed_by (setup_of net fs q) (inner_gate fs p c) (run.plays t q until)) (passed_at (setup_of net fs q) (inner_gate fs p c) (run.plays t q until))
          (each-apart (λ w. (class_of (setup_of net fs p).classes w ≡ c) × (goes p q (flow_at fs w.flow).road ≡ true))
          (passed_by (setup_of net fs q) (inner_gate fs p c) (run.plays t q until)) (gate_at (port t q).gates (inner_gate fs p c)).waits
          (subst (Each (λ w. (class_of (setup_of net fs p).classes w ≡ c) × (goes p q (flow_at fs w.flow).road ≡ true)))
          (sym (regulators_in_order (setup_of net fs q) left (port t q) (run.plays t q until) (inner_gate fs p c) (enough net fs sound fits q) within ∙ same)) each)).0

  -- at the edge it is due at once
  first : (q due : ℕ) → q < length net.ports → starts q (flow_at fs flow).road ≡ true → Enters q due
  first q due known begun t until =
      enters_in_due (setup_of net fs q) left (port t q) (run.plays t q until) (flow_at fs flow).class flow due (enough net fs sound fits q)
      (λ k within inside.
      let of : Inner net fs k = inner net fs k within inside in
      subst (λ j. InDue flow due (passed_by (setup_of net fs q) j (run.plays t q until)) (passed_at (setup_of net fs q) j (run.plays t q until))) (sym of.place)
      (others due t q of.port of.class until known of.known of.low (subst (λ j. j < length (setup_of net fs q).edges) of.place within)
      (λ on is. starts_none of.port q (flow_at fs flow).road sure.route.once begun on)))

  -- at the next port within the promise and the wire more
  next : (p q due : ℕ) → p < length net.ports → q < length net.ports → goes p q (flow_at fs flow).road ≡ true → Enters p due →
      Enters q (due + (promise p (flow_at fs flow).class fs + (port_at net p).wire))
  next p q due known also on enters t until =
      enters_in_due (setup_of net fs q) left (port t q) (run.plays t q until) (flow_at fs flow).class flow (due + (promise p (flow_at fs flow).class fs + (port_at net p).wire)) (enough net fs sound fits q)
      (λ k within inside.
      let of : Inner net fs k = inner net fs k within inside in
      let there : inner_gate fs of.port of.class < length (setup_of net fs q).edges = subst (λ j. j < length (setup_of net fs q).edges) of.place within in
      subst (λ j. InDue flow (due + (promise p (flow_at fs flow).class fs + (port_at net p).wire)) (passed_by (setup_of net fs q) j (run.plays t q until)) (passed_at (setup_of net fs q) j (run.plays t q until))) (sym of.place)
      (by of.port of.class of.known of.low there (cases_eq of.port p) (cases_eq of.class (flow_at fs flow).class)))
    where
      by : (x c : ℕ) → x < length net.ports → c ≤ 7 → inner_gate fs x c < length (setup_of net fs q).edges →
          (x ≡ p) ⊎ (x ≡ p → ⊥) → (c ≡ (flow_at fs flow).class) ⊎ (c ≡ (flow_at fs flow).class → ⊥) →
          InDue flow (due + (promise p (flow_at fs flow).class fs + (port_at net p).wire)) (passed_by (setup_of net fs q) (inner_gate fs x c) (run.plays t q until)) (passed_at (setup_of net fs q) (inner_gate fs x c) (run.plays t q until))
      by x c far low there (inl is) (inl same) =
          subst (λ j. InDue flow (due + (promise p (flow_at fs flow).class fs + (port_at net p).wire)) (passed_by (setup_of net fs q) j (run.plays t q until)) (passed_at (setup_of net fs q) j (run.plays t q until)))
          (ap (λ j. inner_gate fs j (flow_at fs flow).class) (sym is) ∙ ap (λ j. inner_gate fs x j) (sym same))
          (let sooner : t - suc (port_at net p).wire ≤ last = omega arith in
          passes_in_due (setup_of net fs p) (setup_of net fs q) (gate_of fs q) (inner_gate fs p (flow_at fs flow).class) (flow_at fs flow).class (port_at net p).wire flow due
          left left (port (t - suc (port_at net p).wire) p) (port t q) (run.plays (t - suc (port_at net p).wire) p sooner) (run.plays t q until)
          (enough net fs sound fits p) (enough net fs sound fits q) sure.ranges.class_low
          (subst (λ j. j < length (setup_of net fs q).edges) (ap (λ j. inner_gate fs j c) is ∙ ap (λ j. inner_gate fs p j) same) there)
          (run.directed t q until) (run.comes t p q (flow_at fs flow).class until sooner known sure.ranges.class_low) (enters (t - suc (port_at net p).wire) sooner))
      by x c far low there (inr other) same =
          others (due + (promise p (flow_at fs flow).class fs + (port_at net p).wire)) t q x c until also far low there
          (λ goes-on is. other (goes_once x p q (flow_at fs flow).road sure.route.once goes-on on))
      by x c far low there (inl is) (inr other) =
          others (due + (promise p (flow_at fs flow).class fs + (port_at net p).wire)) t q x c until also far low there
          (λ goes-on same. other (sym same))

  -- in due time into the queue, and with the promise more out of the port
  record Timely (p total : ℕ) : Type 0 where
    due : ℕ
    enters : Enters p due
    sum : due + promise p (flow_at fs flow).class fs ≡ total

  -- and so on along the road
  along : (front before : List ℕ) (p due : ℕ) (after : List ℕ) → (flow_at fs flow).road ≡ front ++ (before ++ p ∷ after) →
      Enters (head_or p before) due → Timely p (due + due_over net fs (flow_at fs flow).class (before ++ p ∷ []))
  unfolding due_over
  along front [] p due after road enters = record { due = due; enters = enters; sum = refl }
  along front (x ∷ []) p due after road enters =
      let all = (each-apart (λ x. x < length net.ports) front (x ∷ p ∷ after) (subst (Each (λ x. x < length net.ports)) road sure.route.known)).1 in
      let there = next x p due all.0 all.1.0 (ap (goes x p) road ∙ goes_next front x p after) enters in
      let rest = along (front ++ x ∷ []) [] p (due + (promise x (flow_at fs flow).class fs + (port_at net x).wire)) after
      (road ∙ sym (append_assoc front (x ∷ []) (p ∷ after))) there in
      subst (Timely p) (omega arith) rest
  along front (x ∷ y ∷ before) p due after road enters =
      let all = (each-apart (λ x. x < length net.ports) front (x ∷ y ∷ (before ++ p ∷ after)) (subst (Each (λ x. x < length net.ports)) road sure.route.known)).1 in
      let there = next x y due all.0 all.1.0 (ap (goes x y) road ∙ goes_next front x y (before ++ p ∷ after)) enters in
      let rest = along (front ++ x ∷ []) (y ∷ before) p (due + (promise x (flow_at fs flow).class fs + (port_at net x).wire)) after
      (road ∙ sym (append_assoc front (x ∷ []) (y ∷ (before ++ p ∷ after)))) there in
      subst (Timely p) (omega arith) rest

  begun : (p : ℕ) (xs after : List ℕ) → (flow_at fs flow).road ≡ xs ++ p ∷ after → starts (head_or p xs) (flow_at fs flow).road ≡ true
  unfolding starts
  begun p [] after is = rw is (eq-eqb p p refl)
  begun p (x ∷ xs) after is = rw is (eq-eqb x x refl)

  first_known : (p : ℕ) (xs after : List ℕ) → (flow_at fs flow).road ≡ xs ++ p ∷ after → head_or p xs < length net.ports
  first_known p [] after is = (subst (Each (λ y. y < length net.ports)) is sure.route.known).0
  first_known p (x ∷ xs) after is = (subst (Each (λ y. y < length net.ports)) is sure.route.known).0

  timely : (before : List ℕ) (p : ℕ) (after : List ℕ) → (flow_at fs flow).road ≡ before ++ p ∷ after → Timely p (due_over net fs (flow_at fs flow).class (before ++ p ∷ []))
  timely before p after road =
      let from_zero : 0 + due_over net fs (flow_at fs flow).class (before ++ p ∷ []) ≡ due_over net fs (flow_at fs flow).class (before ++ p ∷ []) = omega arith in
      subst (Timely p) from_zero (along [] before p 0 after road (first (head_or p before) 0 (first_known p before after road) (begun p before after road)))

  last_known : (before : List ℕ) (p : ℕ) (after : List ℕ) → (flow_at fs flow).road ≡ before ++ p ∷ after → p < length net.ports
  last_known before p after road =
      (each-apart (λ x. x < length net.ports) before (p ∷ after) (subst (Each (λ x. x < length net.ports)) road sure.route.known)).1.0

  -- who is still there has time still
  has_time : (t p : ℕ) (until : t ≤ last) (before after : List ℕ) → (flow_at fs flow).road ≡ before ++ p ∷ after →
      Each (λ w. w.flow ≡ flow → (port t p).machine.tick < w.edge + due_over net fs (flow_at fs flow).class (before ++ p ∷ []))
      (being_sent (setup_of net fs p).classes (flow_at fs flow).class (port t p).machine.sending ++ get_or (port t p).machine.queues (flow_at fs flow).class [])
  has_time t p until before after road =
      let it = timely before p after road in
      let a : Setup = setup_of net fs p in
      let c : ℕ = (flow_at fs flow).class in
      let plays = run.plays t p until in
      let rest : List Packet = being_sent (setup_of net fs p).classes (flow_at fs flow).class (port t p).machine.sending ++ get_or (port t p).machine.queues (flow_at fs flow).class [] in
      let all : left_in (setup_of net fs p) (flow_at fs flow).class (run.plays t p until) ++ rest ≡ entered_in (setup_of net fs p) (flow_at fs flow).class (run.plays t p until) =
      nobody_lost (setup_of net fs p) left (port t p) (run.plays t p until) (flow_at fs flow).class (enough net fs sound fits p) sure.ranges.class_low in
      subst (λ most. Each (λ w. w.flow ≡ flow → (port t p).machine.tick < w.edge + most) rest) it.sum
      (still_due flow it.due (promise p (flow_at fs flow).class fs) (port t p).machine.tick (left_in (setup_of net fs p) (flow_at fs flow).class (run.plays t p until)) rest
      (entered_at (setup_of net fs p) (flow_at fs flow).class (run.plays t p until))
      (omega (arith, ap length all, entered_length (setup_of net fs p) (flow_at fs flow).class left (port t p) (run.plays t p until)))
      (subst (λ ws. InDue flow it.due ws (entered_at (setup_of net fs p) (flow_at fs flow).class (run.plays t p until))) (sym all) (it.enters t until))
      (λ n above below.
      nobody_late (setup_of net fs p) left (port t p) (run.plays t p until) (flow_at fs flow).class n (enough net fs sound fits p) sure.ranges.class_low
      (omega (arith, above, left_length (setup_of net fs p) (flow_at fs flow).class left (port t p) (run.plays t p until))) below))

  -- who waits behind the next regulator has time still
  waits-time : (t p q : ℕ) (until : t ≤ last) (before after : List ℕ) → (flow_at fs flow).road ≡ before ++ p ∷ q ∷ after →
      Each (λ w. w.flow ≡ flow → (port t q).machine.tick ≤ w.edge + (due_over net fs (flow_at fs flow).class (before ++ p ∷ []) + (port_at net p).wire))
      (gate_at (port t q).gates (inner_gate fs p (flow_at fs flow).class)).waits
  waits-time t p q until before after road =
      let it = timely before p (q ∷ after) road in
      let known = last_known before p (q ∷ after) road in
      let sooner : t - suc (port_at net p).wire ≤ last = omega arith in
      let then = run.plays (t - suc (port_at net p).wire) p sooner in
      let now = run.plays t q until in
      let d : EgressModel = port (t - suc (port_at net p).wire) p in
      let within : inner_gate fs p (flow_at fs flow).class < length (setup_of net fs q).edges = omega (arith, many_gates net fs, sure.ranges.class_low) in
      let from = run.comes t p q (flow_at fs flow).class until sooner known sure.ranges.class_low in
      let there = port_to_port (setup_of net fs p) (setup_of net fs q) (inner_gate fs p (flow_at fs flow).class) (flow_at fs flow).class (port_at net p).wire left left d (port t q) then now
      (enough net fs sound fits p) sure.ranges.class_low from in
      let late = (costs_nothing (setup_of net fs q) left (port t q) now (gate_of fs q) (inner_gate fs p (flow_at fs flow).class) (promise p (flow_at fs flow).class fs + (port_at net p).wire)
      (sent_on (setup_of net fs p) (flow_at fs flow).class q then) (enough net fs sound fits q) within (run.directed t q until) there.0).1 in
      let lefts : List Packet = left_in (setup_of net fs p) (flow_at fs flow).class then in
      let es : List ℕ = entered_at (setup_of net fs p) (flow_at fs flow).class then in
      let waits : List Packet = (gate_at (port t q).gates (inner_gate fs p (flow_at fs flow).class)).waits in
      let order : passed_by (setup_of net fs q) (inner_gate fs p (flow_at fs flow).class) now ++ waits ≡ came_by (setup_of net fs q) (inner_gate fs p (flow_at fs flow).class) now =
      regulators_in_order (setup_of net fs q) left (port t q) now (inner_gate fs p (flow_at fs flow).class) (enough net fs sound fits q) within in
      let all : passed_by (setup_of net fs q) (inner_gate fs p (flow_at fs flow).class) now ++ waits ≡ onward fs p q lefts = order ∙ from.packets in
      let rest : List Packet = being_sent (setup_of net fs p).classes (flow_at fs flow).class d.machine.sending ++ get_or d.machine.queues (flow_at fs flow).class [] in
      let here : InDue flow it.due (onward fs p q lefts) (beside fs p q lefts es) =
      beside-due flow fs p q it.due lefts rest es
      (subst (λ ws. InDue flow it.due ws es) (sym (nobody_lost (setup_of net fs p) left d then (flow_at fs flow).class (enough net fs sound fits p) sure.ranges.class_low)) (it.enters (t - suc (port_at net p).wire) sooner)) in
      let many = beside_length flow fs p q lefts es
      (omega (arith, left_length (setup_of net fs p) (flow_at fs flow).class left d then, left-fewer (setup_of net fs p) (flow_at fs flow).class left d then (enough net fs sound fits p) sure.ranges.class_low)) in
      let sums : it.due + (promise p (flow_at fs flow).class fs + (port_at net p).wire) ≡ due_over net fs (flow_at fs flow).class (before ++ p ∷ []) + (port_at net p).wire = omega (arith, it.sum) in
      subst (λ most. Each (λ w. w.flow ≡ flow → (port t q).machine.tick ≤ w.edge + most) waits) sums
      (waits_due flow it.due (promise p (flow_at fs flow).class fs + (port_at net p).wire) (port t q).machine.tick d.machine.tick
      (passed_by (setup_of net fs q) (inner_gate fs p (flow_at fs flow).class) now) waits (beside fs p q lefts es)
      (omega (arith, ap length all, many))
      (subst (λ ws. InDue flow it.due ws (beside fs p q lefts es)) (sym all) here)
      (λ n above below. late n above (omega (arith, ap length order, below))))

pub along_roads : AlongRoads
along_roads net fs last port run sound fits t flow p before after until listed road =
    let it = timely net fs last port run sound fits flow listed before p after road in
    subst (λ due. InDue flow due (left_in (setup_of net fs p) (flow_at fs flow).class (run.plays t p until)) (left_at (setup_of net fs p) (flow_at fs flow).class (run.plays t p until)))
    it.sum (out net fs last port run sound fits flow listed p it.due (last_known net fs last port run sound fits flow listed before p after road) it.enters t until)

pub roads_on_time : RoadsOnTime
roads_on_time net fs last port run sound fits t flow p before after until listed road =
    has_time net fs last port run sound fits flow listed t p until before after road

pub regulators_on_time : RegulatorsOnTime
regulators_on_time net fs last port run sound fits t flow p q before after until listed road =
    waits-time net fs last port run sound fits flow listed t p q until before after road
