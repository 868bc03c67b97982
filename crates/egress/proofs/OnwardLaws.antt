-- What leaves one port comes to the next as the laws of a regulator ask. Assumes nothing.
use Rattle.std.proofs.Common.{◌≡◌, ℕ, zero, suc, ◌+◌, ◌<◌, ◌≤◌, Bool, true, false, cond, eqb, List, [], ◌∷◌, ◌++◌, map, length, get_or, sym, refl, ap, ◌∙◌, subst, inl, inr, arith, length-append}
use Rattle.std.proofs.lemmas.List.{length-map, get_or_append_left}
use Rattle.std.proofs.lemmas.Bool.{cases_Bool, cases_eq, cases_lt, eq-eqb, ne_eqb}
use Rattle.flows.specs.Flow.{FlowModel}
use Rattle.promises.specs.Promises.{goes, promise}
use Rattle.lines.specs.declared.packet.Packet.{Packet}
use Rattle.levels.specs.Regular.{Pass, Regular}
use Rattle.levels.proofs.RowLaws.{regular-none, regular_older}
use Rattle.gates.specs.Gates.{class_of, marked}
use Rattle.gates.specs.Laws.{of_class, of_flow, passing}
use Rattle.port.specs.Port.{flow_at}
use Rattle.machine.specs.Phases.{leaves as gone_at}
use Rattle.machine.specs.Joint.{MachineModel}
use Rattle.machine.specs.Runs.{after_open}
use Rattle.egress.specs.Egress.{GateModel, EgressModel, open_one, passers_of, all_passers}
use Rattle.egress.specs.Plays.{Setup, Enough, Moment, left, came, passed, took, Plays, begins, comes, passes, takes, leaves}
use Rattle.egress.specs.Histories.{in_turn, entering, entered_in, entered_at, being_sent, gone_of, left_in, left_at, passed_in, came_by, came_at, passes_before, onward, beside, sent_on}
use Rattle.egress.specs.Laws.{PortToPort}
use Rattle.egress.proofs.TickLaws.{same_tick, taking_tick}
use Rattle.egress.proofs.HistoryLaws.{of_both, pass_both, always_regular}
use Rattle.egress.proofs.LostLaws.{nobody_lost}
use Rattle.egress.proofs.InTimeLaws.{each_in_time}
use Rattle.egress.proofs.CostLaws.{tick_behind}
use Rattle.egress.proofs.WindowLaws.{road_listed}

-- ticks that do not fall, from one tick on up to another
abbrev Rising : ℕ → List ℕ → ℕ → Type 0
Rising low [] high = low ≤ high
Rising low (t ∷ ts) high = (low ≤ t) × Rising t ts high

rising-low : (low : ℕ) (ts : List ℕ) (high : ℕ) → Rising low ts high → low ≤ high
rising-low low [] high rising = rising
rising-low low (t ∷ ts) high rising = let rest = rising-low t ts high rising.1 in omega (arith, rising.0)

rising-from : (low less : ℕ) (ts : List ℕ) (high : ℕ) → less ≤ low → Rising low ts high → Rising less ts high
rising-from low less [] high most rising = omega arith
rising-from low less (t ∷ ts) high most rising = (omega (arith, rising.0), rising.1)

rising-at : (low : ℕ) (ts : List ℕ) (high n : ℕ) → Rising low ts high → get_or ts n high ≤ high
rising-at low [] high n rising = omega arith
rising-at low (t ∷ ts) high zero rising = rising-low t ts high rising.1
rising-at low (t ∷ ts) high (suc n) rising = rising-at t ts high n rising.1

rising-above : (low : ℕ) (ts : List ℕ) (high n : ℕ) → Rising low ts high → low ≤ get_or ts n high
rising-above low [] high n rising = rising
rising-above low (t ∷ ts) high zero rising = rising.0
rising-above low (t ∷ ts) high (suc n) rising = let rest = rising-above t ts high n rising.1 in omega (arith, rising.0)

rising-order : (low : ℕ) (ts : List ℕ) (high i j : ℕ) → Rising low ts high → i ≤ j → get_or ts i high ≤ get_or ts j high
rising-order low [] high i j rising most = omega arith
rising-order low (t ∷ ts) high zero zero rising most = omega arith
rising-order low (t ∷ ts) high zero (suc j) rising most = rising-above t ts high j rising.1
rising-order low (t ∷ ts) high (suc i) zero rising most = absurd (omega arith)
rising-order low (t ∷ ts) high (suc i) (suc j) rising most = rising-order t ts high i j rising.1 (omega arith)

rising-more : (low : ℕ) (ts : List ℕ) (high now : ℕ) (ws : List Packet) → Rising low ts high → high ≤ now → Rising low (ts ++ map (λ (_ : Packet). now) ws) now
rising-more low [] high now [] rising most = omega arith
rising-more low [] high now (w ∷ ws) rising most = (omega arith, rising-more now [] now now ws (omega arith) (omega arith))
rising-more low (t ∷ ts) high now ws rising most = (rising.0, rising-more t ts high now ws rising.1 most)

rising-later : (low : ℕ) (ts : List ℕ) (high now : ℕ) → Rising low ts high → high ≤ now → Rising low ts now
rising-later low [] high now rising most = omega arith
rising-later low (t ∷ ts) high now rising most = (rising.0, rising-later t ts high now rising.1 most)

entered_rising : (a : Setup) (c : ℕ) (m : Moment) (e : EgressModel) (plays : Plays a m e) → Rising 0 (entered_at a c plays) e.machine.tick
unfolding entered_at
entered_rising a c _ _ begins = omega arith
entered_rising a c _ _ (comes {e = e} cs plays some) = entered_rising a c left e plays
entered_rising a c _ _ (passes {e = e} plays) =
    subst (Rising 0 (entered_at a c plays ++ map (λ (_ : Packet). e.machine.tick) (entering a.classes c e.machine.tick e.gates (all_passers a.room a.classes e.gates e.machine))))
    (sym (same_tick a.room a.classes e.gates e.machine))
    (rising-more 0 (entered_at a c plays) e.machine.tick e.machine.tick (entering a.classes c e.machine.tick e.gates (all_passers a.room a.classes e.gates e.machine))
    (entered_rising a c came e plays) (omega arith))
entered_rising a c _ _ (takes {e = e} plays clock) =
    subst (Rising 0 (entered_at a c plays)) (sym (taking_tick e.machine e.machine.sending)) (entered_rising a c passed e plays)
entered_rising a c _ _ (leaves {e = e} plays) =
    rising-later 0 (entered_at a c plays) e.machine.tick (e.machine.tick + 1) (entered_rising a c took e plays) (omega arith)

-- ticks stand beside packets
pub entered_length : (a : Setup) (c : ℕ) (m : Moment) (e : EgressModel) (plays : Plays a m e) → length (entered_at a c plays) ≡ length (entered_in a c plays)
unfolding entered_at entered_in
entered_length a c _ _ begins = refl
entered_length a c _ _ (comes {e = e} cs plays some) = entered_length a c left e plays
entered_length a c _ _ (passes {e = e} plays) =
    let new = entering a.classes c e.machine.tick e.gates (all_passers a.room a.classes e.gates e.machine) in
    omega (
      arith,
      entered_length a c came e plays,
      length-append (entered_at a c plays) (map (λ (_ : Packet). e.machine.tick) new),
      length-append (entered_in a c plays) new,
      length-map new (λ (_ : Packet). e.machine.tick),
    )
entered_length a c _ _ (takes {e = e} plays clock) = entered_length a c passed e plays
entered_length a c _ _ (leaves {e = e} plays) = entered_length a c took e plays

pub left_length : (a : Setup) (c : ℕ) (m : Moment) (e : EgressModel) (plays : Plays a m e) → length (left_at a c plays) ≡ length (left_in a c plays)
unfolding left_at left_in
left_length a c _ _ begins = refl
left_length a c _ _ (comes {e = e} cs plays some) = left_length a c left e plays
left_length a c _ _ (passes {e = e} plays) = left_length a c came e plays
left_length a c _ _ (takes {e = e} plays clock) = left_length a c passed e plays
left_length a c _ _ (leaves {e = e} plays) =
    let gone = gone_of a.classes c (gone_at (e.machine.tick + 1) e.machine.sending) in
    omega (
      arith,
      left_length a c took e plays,
      length-append (left_at a c plays) (map (λ (_ : Packet). e.machine.tick + 1) gone),
      length-append (left_in a c plays) gone,
      length-map gone (λ (_ : Packet). e.machine.tick + 1),
    )

pub left-fewer : (a : Setup) (c : ℕ) (m : Moment) (e : EgressModel) (plays : Plays a m e) → Enough a → c ≤ 7 → length (left_at a c plays) ≤ length (entered_at a c plays)
left-fewer a c m e plays enough low =
    let order = nobody_lost a m e plays c enough low in
    let rest : List Packet = being_sent a.classes c e.machine.sending ++ get_or e.machine.queues c [] in
    omega (arith, left_length a c m e plays, entered_length a c m e plays, ap length order, length-append (left_in a c plays) rest)

-- nobody leaves before it entered
pub enters-first : (a : Setup) (c : ℕ) (m : Moment) (e : EgressModel) (plays : Plays a m e) → Enough a → c ≤ 7 → (n : ℕ) → n < length (left_at a c plays) →
    get_or (entered_at a c plays) n 0 ≤ get_or (left_at a c plays) n 0
unfolding entered_at left_at
enters-first a c _ _ begins enough low n within = absurd (omega arith)
enters-first a c _ _ (comes {e = e} cs plays some) enough low n within = enters-first a c left e plays enough low n within
enters-first a c _ _ (passes {e = e} plays) enough low n within =
    let new = entering a.classes c e.machine.tick e.gates (all_passers a.room a.classes e.gates e.machine) in
    let fewer = left-fewer a c came e plays enough low in
    let first = get_or_append_left (entered_at a c plays) (map (λ (_ : Packet). e.machine.tick) new) 0 n (omega arith) in
    omega (arith, first, enters-first a c came e plays enough low n within)
enters-first a c _ _ (takes {e = e} plays clock) enough low n within = enters-first a c passed e plays enough low n within
enters-first a c _ _ (leaves {e = e} plays) enough low n within =
    let gone = gone_of a.classes c (gone_at (e.machine.tick + 1) e.machine.sending) in
    elim (cases_lt n (length (left_at a c plays))) [
      | inl old ↦
          let first = get_or_append_left (left_at a c plays) (map (λ (_ : Packet). e.machine.tick + 1) gone) 0 n old in
          omega (arith, first, enters-first a c took e plays enough low n old)
      | inr young ↦
          let whole : n < length (left_at a c plays) + length gone =
          omega (arith, length-append (left_at a c plays) (map (λ (_ : Packet). e.machine.tick + 1) gone), length-map gone (λ (_ : Packet). e.machine.tick + 1)) in
          let tick = tick_behind (left_at a c plays) (e.machine.tick + 1) gone n young whole in
          omega (arith, tick, at-most 0 (entered_at a c plays) e.machine.tick n (entered_rising a c took e plays))
    ]
  where
    at-most : (low : ℕ) (ts : List ℕ) (high n : ℕ) → Rising low ts high → get_or ts n 0 ≤ high
    at-most low [] high n rising = omega arith
    at-most low (t ∷ ts) high zero rising = rising-low t ts high rising.1
    at-most low (t ∷ ts) high (suc n) rising = at-most t ts high n rising.1

-- two rows of ticks, of which each of the first is within so many ticks of that beside it, and not before
abbrev pub Near : ℕ → List ℕ → List ℕ → Type 0
Near most [] es = Unit {0}
Near most (t ∷ ts) [] = ⊥
Near most (t ∷ ts) (e ∷ es) = (t ≤ e + most) × (e ≤ t) × Near most ts es

pub near : (most : ℕ) (ts es : List ℕ) → length ts ≤ length es → ((n : ℕ) → n < length ts → get_or ts n 0 ≤ get_or es n 0 + most) →
    ((n : ℕ) → n < length ts → get_or es n 0 ≤ get_or ts n 0) → Near most ts es
near most [] es fewer late soon = tt
near most (t ∷ ts) [] fewer late soon = absurd (omega arith)
near most (t ∷ ts) (e ∷ es) fewer late soon =
    (late 0 (omega arith), soon 0 (omega arith), near most ts es (omega arith) (λ n h. late (suc n) (omega arith)) (λ n h. soon (suc n) (omega arith)))

near_at : (most wire high : ℕ) (ts es : List ℕ) (n : ℕ) → Near most ts es → n < length (map (λ (t : ℕ). t + wire) ts) →
    (get_or (map (λ (t : ℕ). t + wire) ts) n 0 ≤ get_or es n high + (most + wire)) × (get_or es n high + wire ≤ get_or (map (λ (t : ℕ). t + wire) ts) n 0)
near_at most wire high [] es n near within = absurd (omega arith)
near_at most wire high (t ∷ ts) [] n near within = absurd near
near_at most wire high (t ∷ ts) (e ∷ es) zero near within = (omega (arith, near.0), omega (arith, near.1))
near_at most wire high (t ∷ ts) (e ∷ es) (suc n) near within = near_at most wire high ts es n near.2 (omega arith)

-- passes of a flow, from packets and the ticks beside them
abbrev passes_at : ℕ → List Packet → List ℕ → List Pass → List Pass
passes_at flow [] es h = h
passes_at flow (w ∷ ws) [] h = h
passes_at flow (w ∷ ws) (e ∷ es) h = passes_at flow ws es (cond (eqb w.flow flow) (record { at = e; len = w.length } ∷ h) h)

at-both : (flow : ℕ) (xs ys : List Packet) (es fs : List ℕ) (h : List Pass) → length xs ≡ length es →
    passes_at flow (xs ++ ys) (es ++ fs) h ≡ passes_at flow ys fs (passes_at flow xs es h)
at-both flow [] ys [] fs h same = refl
at-both flow [] ys (e ∷ es) fs h same = absurd (omega arith)
at-both flow (x ∷ xs) ys [] fs h same = absurd (omega arith)
at-both flow (x ∷ xs) ys (e ∷ es) fs h same = at-both flow xs ys es fs (cond (eqb x.flow flow) (record { at = e; len = x.length } ∷ h) h) (omega arith)

at-older : (burst rate flow : ℕ) (ws : List Packet) (es : List ℕ) (h : List Pass) → Regular burst rate (passes_at flow ws es h) → Regular burst rate h
at-older burst rate flow [] es h regular = regular
at-older burst rate flow (w ∷ ws) [] h regular = regular
at-older burst rate flow (w ∷ ws) (e ∷ es) h regular =
    by (eqb w.flow flow) (at-older burst rate flow ws es (cond (eqb w.flow flow) (record { at = e; len = w.length } ∷ h) h) regular)
  where
    by : (x : Bool) → Regular burst rate (cond x (record { at = e; len = w.length } ∷ h) h) → Regular burst rate h
    by true more = regular_older burst rate (record { at = e; len = w.length }) h more
    by false same = same

at-front : (burst rate flow : ℕ) (xs ys : List Packet) (es : List ℕ) (h : List Pass) → Regular burst rate (passes_at flow (xs ++ ys) es h) → Regular burst rate (passes_at flow xs es h)
at-front burst rate flow [] ys es h regular = at-older burst rate flow ys es h regular
at-front burst rate flow (x ∷ xs) ys [] h regular = regular
at-front burst rate flow (x ∷ xs) ys (e ∷ es) h regular = at-front burst rate flow xs ys es (cond (eqb x.flow flow) (record { at = e; len = x.length } ∷ h) h) regular

at-once : (flow t : ℕ) (ws : List Packet) (h : List Pass) → passes_at flow ws (map (λ (_ : Packet). t) ws) h ≡ passing t (of_flow flow ws) h
unfolding passing of_flow
at-once flow t [] h = refl
at-once flow t (w ∷ ws) h =
    elim (cases_Bool (eqb w.flow flow)) [
      | inl is ↦ rw is (at-once flow t ws (record { at = t; len = w.length } ∷ h))
      | inr not ↦ rw not (at-once flow t ws h)
    ]

-- those who pass of a flow are of its class
module _ (classes : List ℕ) (c flow : ℕ) where
  row-passes : (its : get_or classes flow 0 ≡ c) (b : Bool) (t : ℕ) (row : List Packet) (h : List Pass) →
      passing t (of_flow flow (map (marked b t) (of_class classes c row))) h ≡ passing t (of_flow flow row) h
  unfolding passing of_flow of_class
  row-passes its b t [] h = refl
  row-passes its b t (w ∷ row) h =
      elim (cases_eq (class_of classes w) c) [
        | inl is ↦ rw (eq-eqb (class_of classes w) c is) (elim (cases_Bool (eqb w.flow flow)) [
          | inl same ↦ rw same (row-passes its b t row (record { at = t; len = w.length } ∷ h))
          | inr not ↦ rw not (row-passes its b t row h)
        ])
        | inr other ↦
            let not : eqb w.flow flow ≡ false = ne_eqb w.flow flow (λ e. other (ap (λ k. get_or classes k 0) e ∙ its)) in
            rw (ne_eqb (class_of classes w) c other, not) (row-passes its b t row h)
      ]

  row-none : (not : get_or classes flow 0 ≡ c → ⊥) (b : Bool) (t : ℕ) (row : List Packet) → of_flow flow (map (marked b t) (of_class classes c row)) ≡ []
  unfolding of_flow of_class
  row-none not b t [] = refl
  row-none not b t (w ∷ row) =
      elim (cases_eq (class_of classes w) c) [
        | inl is ↦
            let other : eqb w.flow flow ≡ false = ne_eqb w.flow flow (λ e. not (ap (λ k. get_or classes k 0) (sym e) ∙ is)) in
            rw (eq-eqb (class_of classes w) c is, other) (row-none not b t row)
        | inr other ↦ rw (ne_eqb (class_of classes w) c other) (row-none not b t row)
      ]

  new-passes : (its : get_or classes flow 0 ≡ c) (room t : ℕ) (gs : List GateModel) (s : MachineModel) (h : List Pass) →
      passing t (of_flow flow (entering classes c t gs (all_passers room classes gs s))) h ≡ passing t (of_flow flow (in_turn (all_passers room classes gs s))) h
  unfolding entering in_turn all_passers of_flow passing
  new-passes its room t [] s h = refl
  new-passes its room t (g ∷ gs) s h =
      let row : List Packet = passers_of room classes g s in
      let next : MachineModel = after_open s (open_one room classes g s) in
      ap (λ x. passing t x h) (of_both flow (map (marked g.at_edge t) (of_class classes c (passers_of room classes g s))) (entering classes c t gs (all_passers room classes gs next)))
      ∙ pass_both t (of_flow flow (map (marked g.at_edge t) (of_class classes c (passers_of room classes g s)))) (of_flow flow (entering classes c t gs (all_passers room classes gs next))) h
      ∙ ap (passing t (of_flow flow (entering classes c t gs (all_passers room classes gs next)))) (row-passes its g.at_edge t (passers_of room classes g s) h)
      ∙ new-passes its room t gs next (passing t (of_flow flow row) h)
      ∙ sym (pass_both t (of_flow flow row) (of_flow flow (in_turn (all_passers room classes gs next))) h)
      ∙ ap (λ x. passing t x h) (sym (of_both flow row (in_turn (all_passers room classes gs next))))

  new-none : (not : get_or classes flow 0 ≡ c → ⊥) (room t : ℕ) (gs : List GateModel) (s : MachineModel) →
      of_flow flow (entering classes c t gs (all_passers room classes gs s)) ≡ []
  unfolding entering all_passers of_flow
  new-none not room t [] s = refl
  new-none not room t (g ∷ gs) s =
      let next : MachineModel = after_open s (open_one room classes g s) in
      of_both flow (map (marked g.at_edge t) (of_class classes c (passers_of room classes g s))) (entering classes c t gs (all_passers room classes gs next))
      ∙ ap (λ x. x ++ of_flow flow (entering classes c t gs (all_passers room classes gs next))) (row-none not g.at_edge t (passers_of room classes g s))
      ∙ new-none not room t gs next

-- a history is that of the flow, or that of no flow
flow-passes : (a : Setup) (c flow : ℕ) (m : Moment) (e : EgressModel) (plays : Plays a m e) → get_or a.classes flow 0 ≡ c →
    passes_at flow (entered_in a c plays) (entered_at a c plays) [] ≡ passed_in a flow plays
unfolding entered_in entered_at passed_in
flow-passes a c flow _ _ begins its = refl
flow-passes a c flow _ _ (comes {e = e} cs plays some) its = flow-passes a c flow left e plays its
flow-passes a c flow _ _ (passes {e = e} plays) its =
    let new : List Packet = entering a.classes c e.machine.tick e.gates (all_passers a.room a.classes e.gates e.machine) in
    at-both flow (entered_in a c plays) new (entered_at a c plays) (map (λ (_ : Packet). e.machine.tick) new) [] (sym (entered_length a c came e plays))
    ∙ ap (passes_at flow new (map (λ (_ : Packet). e.machine.tick) new)) (flow-passes a c flow came e plays its)
    ∙ at-once flow e.machine.tick new (passed_in a flow plays)
    ∙ new-passes a.classes c flow its a.room e.machine.tick e.gates e.machine (passed_in a flow plays)
flow-passes a c flow _ _ (takes {e = e} plays clock) its = flow-passes a c flow passed e plays its
flow-passes a c flow _ _ (leaves {e = e} plays) its = flow-passes a c flow took e plays its

no-passes : (a : Setup) (c flow : ℕ) (m : Moment) (e : EgressModel) (plays : Plays a m e) → (get_or a.classes flow 0 ≡ c → ⊥) →
    passes_at flow (entered_in a c plays) (entered_at a c plays) [] ≡ []
unfolding entered_in entered_at passing
no-passes a c flow _ _ begins not = refl
no-passes a c flow _ _ (comes {e = e} cs plays some) not = no-passes a c flow left e plays not
no-passes a c flow _ _ (passes {e = e} plays) not =
    let new : List Packet = entering a.classes c e.machine.tick e.gates (all_passers a.room a.classes e.gates e.machine) in
    at-both flow (entered_in a c plays) new (entered_at a c plays) (map (λ (_ : Packet). e.machine.tick) new) [] (sym (entered_length a c came e plays))
    ∙ ap (passes_at flow new (map (λ (_ : Packet). e.machine.tick) new)) (no-passes a c flow came e plays not)
    ∙ at-once flow e.machine.tick new []
    ∙ ap (λ x. passing e.machine.tick x []) (new-none a.classes c flow not a.room e.machine.tick e.gates e.machine)
no-passes a c flow _ _ (takes {e = e} plays clock) not = no-passes a c flow passed e plays not
no-passes a c flow _ _ (leaves {e = e} plays) not = no-passes a c flow took e plays not

-- those that go on
module _ (flows : List FlowModel) (p q : ℕ) where
  near-beside : (most : ℕ) (ws : List Packet) (ts es : List ℕ) → Near most ts es → Near most (beside flows p q ws ts) (beside flows p q ws es)
  unfolding beside
  near-beside most [] ts es near = tt
  near-beside most (w ∷ ws) [] es near = tt
  near-beside most (w ∷ ws) (t ∷ ts) [] near = absurd near
  near-beside most (w ∷ ws) (t ∷ ts) (e ∷ es) near =
      elim (cases_Bool (goes p q (flow_at flows w.flow).road)) [
        | inl on ↦ rw on (near.0, near.1, near-beside most ws ts es near.2)
        | inr off ↦ rw off (near-beside most ws ts es near.2)
      ]

  rising-beside : (low : ℕ) (ws : List Packet) (ts : List ℕ) (high : ℕ) → Rising low ts high → Rising low (beside flows p q ws ts) high
  unfolding beside
  rising-beside low [] ts high rising = rising-low low ts high rising
  rising-beside low (w ∷ ws) [] high rising = rising
  rising-beside low (w ∷ ws) (t ∷ ts) high rising =
      elim (cases_Bool (goes p q (flow_at flows w.flow).road)) [
        | inl on ↦ rw on (rising.0, rising-beside t ws ts high rising.1)
        | inr off ↦ rw off (rising-from t low (beside flows p q ws ts) high rising.0 (rising-beside t ws ts high rising.1))
      ]

  onward-none : (flow i : ℕ) (ws : List Packet) (sent : ℕ → ℕ) (h : List Pass) → goes p q (flow_at flows flow).road ≡ false → passes_before flow i (onward flows p q ws) sent h ≡ h
  unfolding onward passes_before
  onward-none flow i [] sent h not = refl
  onward-none flow i (w ∷ ws) sent h not =
      elim (cases_Bool (goes p q (flow_at flows w.flow).road)) [
        | inl on ↦
            let other : eqb w.flow flow ≡ false = ne_eqb w.flow flow (λ e. let never : true ≡ false = sym on ∙ ap (λ k. goes p q (flow_at flows k).road) e ∙ not in cc) in
            rw on (rw (other, passes_before) (onward-none flow (i + 1) ws sent h not))
        | inr off ↦ rw off (onward-none flow i ws sent h not)
      ]

  onward-passes : (flow i high : ℕ) (ws : List Packet) (es : List ℕ) (sent : ℕ → ℕ) (h : List Pass) → goes p q (flow_at flows flow).road ≡ true → length ws ≤ length es →
      ((n : ℕ) → sent (i + n) ≡ get_or (beside flows p q ws es) n high) → passes_before flow i (onward flows p q ws) sent h ≡ passes_at flow ws es h
  unfolding onward beside passes_before
  onward-passes flow i high [] es sent h on fewer same = refl
  onward-passes flow i high (w ∷ ws) [] sent h on fewer same = absurd (omega arith)
  onward-passes flow i high (w ∷ ws) (e ∷ es) sent h on fewer same = by (goes p q (flow_at flows w.flow).road) refl same
      (λ j more there. onward-passes flow j high ws es sent more on (omega arith) there)
    where
      by : (x : Bool) → goes p q (flow_at flows w.flow).road ≡ x → ((n : ℕ) → sent (i + n) ≡ get_or (cond x (e ∷ beside flows p q ws es) (beside flows p q ws es)) n high) →
          ((j : ℕ) (more : List Pass) → ((n : ℕ) → sent (j + n) ≡ get_or (beside flows p q ws es) n high) → passes_before flow j (onward flows p q ws) sent more ≡ passes_at flow ws es more) →
          passes_before flow i (cond x (w ∷ onward flows p q ws) (onward flows p q ws)) sent h ≡ passes_at flow ws es (cond (eqb w.flow flow) (record { at = e; len = w.length } ∷ h) h)
      by true goes-on all rest =
          let zeroth : i + 0 ≡ i = omega arith in
          let here : sent i ≡ e = ap sent (sym zeroth) ∙ all 0 in
          let next : (n : ℕ) → i + suc n ≡ i + 1 + n = λ n. omega arith in
          rest (i + 1) (cond (eqb w.flow flow) (record { at = sent i; len = w.length } ∷ h) h) (λ n. ap sent (sym (next n)) ∙ all (suc n))
          ∙ ap (λ t. passes_at flow ws es (cond (eqb w.flow flow) (record { at = t; len = w.length } ∷ h) h)) here
      by false stays all rest =
          let other : eqb w.flow flow ≡ false = ne_eqb w.flow flow (λ e. let never : true ≡ false = sym on ∙ ap (λ k. goes p q (flow_at flows k).road) (sym e) ∙ stays in cc) in
          rest i h all ∙ ap (λ x. passes_at flow ws es (cond x (record { at = e; len = w.length } ∷ h) h)) (sym other)

-- what goes on is regular, by the ticks at which it passed
onward-regular : (a : Setup) (c q : ℕ) (m : Moment) (d : EgressModel) (before : Plays a m d) → Enough a → c ≤ 7 → (flow : ℕ) →
    Regular (flow_at a.flows flow).burst (flow_at a.flows flow).rate (passes_before flow 0 (onward a.flows a.port q (left_in a c before)) (sent_on a c q before) [])
onward-regular a c q m d before enough low flow =
    elim (cases_Bool (goes a.port q (flow_at a.flows flow).road)) [
      | inl on ↦
          let fewer : length (left_in a c before) ≤ length (entered_at a c before) = omega (arith, left_length a c m d before, left-fewer a c m d before enough low) in
          let same : (n : ℕ) → sent_on a c q before (0 + n) ≡ get_or (beside a.flows a.port q (left_in a c before) (entered_at a c before)) n d.machine.tick =
          λ n. let from_zero : 0 + n ≡ n = omega arith in ap (sent_on a c q before) from_zero in
          let rest : List Packet = being_sent a.classes c d.machine.sending ++ get_or d.machine.queues c [] in
          let all : Regular (flow_at a.flows flow).burst (flow_at a.flows flow).rate (passes_at flow (entered_in a c before) (entered_at a c before) []) =
          elim (cases_eq (get_or a.classes flow 0) c) [
            | inl its ↦
                subst (Regular (flow_at a.flows flow).burst (flow_at a.flows flow).rate) (sym (flow-passes a c flow m d before its))
                (always_regular a m d before flow (road_listed a.flows a.port q flow on)).regular
            | inr not ↦
                subst (Regular (flow_at a.flows flow).burst (flow_at a.flows flow).rate) (sym (no-passes a c flow m d before not))
                (regular-none (flow_at a.flows flow).burst (flow_at a.flows flow).rate)
          ] in
          let front = at-front (flow_at a.flows flow).burst (flow_at a.flows flow).rate flow (left_in a c before) rest (entered_at a c before) []
          (subst (λ ws. Regular (flow_at a.flows flow).burst (flow_at a.flows flow).rate (passes_at flow ws (entered_at a c before) []))
          (sym (nobody_lost a m d before c enough low)) all) in
          subst (Regular (flow_at a.flows flow).burst (flow_at a.flows flow).rate)
          (sym (onward-passes a.flows a.port q flow 0 d.machine.tick (left_in a c before) (entered_at a c before) (sent_on a c q before) [] on fewer same)) front
      | inr off ↦
          subst (Regular (flow_at a.flows flow).burst (flow_at a.flows flow).rate)
          (sym (onward-none a.flows a.port q flow 0 (left_in a c before) (sent_on a c q before) [] off))
          (regular-none (flow_at a.flows flow).burst (flow_at a.flows flow).rate)
    ]

pub port_to_port : PortToPort
port_to_port a b k c wire m n d e before plays enough low from =
    let due : ℕ = promise a.port c a.flows in
    let ts : List ℕ = beside a.flows a.port b.port (left_in a c before) (left_at a c before) in
    let es : List ℕ = beside a.flows a.port b.port (left_in a c before) (entered_at a c before) in
    let pair = near-beside a.flows a.port b.port (promise a.port c a.flows) (left_in a c before) (left_at a c before) (entered_at a c before)
    (near (promise a.port c a.flows) (left_at a c before) (entered_at a c before) (left-fewer a c m d before enough low)
    (λ i h. each_in_time a m d before c i enough low h) (enters-first a c m d before enough low)) in
    let rising = rising-beside a.flows a.port b.port 0 (left_in a c before) (entered_at a c before) d.machine.tick (entered_rising a c m d before) in
    let at : (i : ℕ) → i < length (came_at b k plays) →
    (get_or (came_at b k plays) i 0 ≤ get_or es i d.machine.tick + (due + wire)) × (get_or es i d.machine.tick + wire ≤ get_or (came_at b k plays) i 0) =
    λ i h.
    subst (λ xs. (get_or xs i 0 ≤ get_or es i d.machine.tick + (due + wire)) × (get_or es i d.machine.tick + wire ≤ get_or xs i 0)) (sym from.ticks)
    (near_at due wire d.machine.tick ts es i pair (subst (λ xs. i < length xs) from.ticks h)) in (
      record {
        order = λ i j. rising-order 0 es d.machine.tick i j rising;
        regular = λ flow.
            subst (λ fs. Regular (flow_at fs flow).burst (flow_at fs flow).rate (passes_before flow 0 (came_by b k plays) (sent_on a c b.port before) [])) (sym from.flows)
            (subst (λ ws. Regular (flow_at a.flows flow).burst (flow_at a.flows flow).rate (passes_before flow 0 ws (sent_on a c b.port before) [])) (sym from.packets)
            (onward-regular a c b.port m d before enough low flow));
        within = λ i h. (at i h).0;
      },
      λ i h. (at i h).1,
    )
