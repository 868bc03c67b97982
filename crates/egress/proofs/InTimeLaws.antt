-- Each packet leaves within the promise, counted from the tick at which it went into its queue. Assumes nothing.
use Rattle.std.proofs.Common.{◌≡◌, ℕ, zero, suc, ◌+◌, ◌<◌, ◌≤◌, Bool, true, false, eqb, List, [], ◌∷◌, ◌++◌, map, length, get_or, Some, None, Option, sym, refl, ap, ◌∙◌, subst, inl, inr, arith}
use Rattle.std.specs.List.{AllByRecursion as Each}
use Rattle.std.proofs.ByRecursion.{All-weaker}
use Rattle.std.proofs.lemmas.List.{length-map, get_or-map, map-append}
use Rattle.std.proofs.lemmas.Bool.{cases_Bool, eqb-true}
use Rattle.promises.specs.Promises.{promise}
use Rattle.lines.specs.declared.packet.Packet.{Packet}
use Rattle.queues.specs.declared.queues_of.Taken.{Taken}
use Rattle.queues.specs.declared.queues_of.Taken.TheVariants.{Packet as taken, Nothing}
use Rattle.queues.specs.Lines.{taken_from}
use Rattle.queues.proofs.QueueLaws.{first_taken}
use Rattle.gates.specs.Gates.{class_of, marked}
use Rattle.gates.specs.Laws.{of_class}
use Rattle.port.specs.Port.{flow_at}
use Rattle.machine.specs.declared.sending.Sending.{Sending}
use Rattle.machine.specs.declared.leaving.Leaving.TheVariants.{Gone}
use Rattle.machine.specs.Phases.{begun, leaves as gone_at, goes_on as still}
use Rattle.machine.specs.Joint.{MachineModel}
use Rattle.machine.specs.Runs.{after_taking}
use Rattle.machine.proofs.RunLaws.{leaves_in_time}
use Rattle.egress.specs.Egress.{GateModel, EgressModel, Accepted, all_passers, leave_phase, come_phase, pass_phase, take_phase}
use Rattle.egress.specs.Plays.{Setup, Enough, MayCome, empty_gates, at_start, Moment, left, came, passed, took, Plays, begins, comes, passes, takes, leaves}
use Rattle.egress.specs.Histories.{entering, entered_in, entered_at, gone_of, being_sent, left_in, left_at}
use Rattle.egress.specs.Laws.{EachInTime}
use Rattle.egress.proofs.GoesLaws.{goes_on, first_queued}
use Rattle.egress.proofs.TickLaws.{same_sending}
use Rattle.egress.proofs.LostLaws.{nobody_lost, first-of}
use Rattle.egress.proofs.AlikeLaws.{unmarked, waits_of, Alike, all-alike, take-alike, leave-alike, gone-alike, come-alike}

-- the same port, as if all regulators stood at the edge: each packet is marked with the tick of its pass
abbrev pub marking : Setup → Setup
marking a =
    record { port = a.port; flows = a.flows; enters = λ _. true; room = a.room; classes = a.classes; edges = map (λ (_ : Bool). true) a.edges }

pub marking-enough : (a : Setup) → Enough a → Enough (marking a)
marking-enough a enough =
    record { within = enough.within; holding = enough.holding; short = enough.short; table = enough.table; cells = enough.cells }

abbrev pub edge_of : Packet → ℕ
edge_of w = w.edge

pub record Twin (a : Setup) (m : Moment) (e : EgressModel) (plays : Plays a m e) : Type 0 where
  pub state : EgressModel
  pub run : Plays (marking a) m state
  pub waits : waits_of e.gates ≡ waits_of state.gates
  pub alike : Alike e.machine state.machine
  pub entered : (class : ℕ) → entered_at a class plays ≡ map edge_of (entered_in (marking a) class run)
  pub left_too : (class : ℕ) → left_at a class plays ≡ left_at (marking a) class run

none-wait : (edges : List Bool) → waits_of (empty_gates edges) ≡ waits_of (empty_gates (map (λ (_ : Bool). true) edges))
none-wait [] = refl
none-wait (b ∷ bs) = ap (λ r. [] ∷ r) (none-wait bs)

comes_too : (a : Setup) (c : Accepted) → MayCome a c → MayCome (marking a) c
comes_too a c some =
    let within = some.within in
    record {
      within = simp length-map within;
      belongs = (some.belongs.0, sym (get_or-map (λ (_ : Bool). true) a.edges c.gate false false within));
    }

-- marks are the ticks of the passes
module _ (classes : List ℕ) (class tick : ℕ) where
  row-marks : (b : Bool) (ws : List Packet) → map (λ (_ : Packet). tick) (map (marked b tick) ws) ≡ map edge_of (map (marked true tick) ws)
  row-marks b [] = refl
  row-marks b (w ∷ ws) = ap (λ r. tick ∷ r) (row-marks b ws)

  marks : (gs hs : List GateModel) (rows : List (List Packet)) → waits_of gs ≡ waits_of hs → Each (λ (g : GateModel). g.at_edge ≡ true) hs →
      map (λ (_ : Packet). tick) (entering classes class tick gs rows) ≡ map edge_of (entering classes class tick hs rows)
  unfolding entering
  marks [] [] rows same edge = refl
  marks [] (h ∷ hs) rows same edge = cc
  marks (g ∷ gs) [] rows same edge = cc
  marks (g ∷ gs) (h ∷ hs) [] same edge = refl
  marks (g ∷ gs) (h ∷ hs) (row ∷ rows) same edge =
      let others : waits_of gs ≡ waits_of hs = cc in
      let here : List Packet = of_class classes class row in
      map-append (λ (_ : Packet). tick) (map (marked g.at_edge tick) (of_class classes class row)) (entering classes class tick gs rows)
      ∙ ap (λ r. r ++ map (λ (_ : Packet). tick) (entering classes class tick gs rows)) (row-marks g.at_edge (of_class classes class row))
      ∙ ap (λ b. map edge_of (map (marked b tick) (of_class classes class row)) ++ map (λ (_ : Packet). tick) (entering classes class tick gs rows)) (sym edge.0)
      ∙ ap (λ r. map edge_of (map (marked h.at_edge tick) (of_class classes class row)) ++ r) (marks gs hs rows others edge.1)
      ∙ sym (map-append edge_of (map (marked h.at_edge tick) (of_class classes class row)) (entering classes class tick hs rows))

all-true : (es : List Bool) (hs : List GateModel) → map (λ (g : GateModel). g.at_edge) hs ≡ map (λ (_ : Bool). true) es → Each (λ (g : GateModel). g.at_edge ≡ true) hs
all-true [] [] same = tt
all-true [] (h ∷ hs) same = cc
all-true (b ∷ bs) [] same = cc
all-true (b ∷ bs) (h ∷ hs) same = (cc, all-true bs hs (cc))

const_map : (n : ℕ) (ws : List Packet) → map (λ (_ : Packet). n) (map unmarked ws) ≡ map (λ (_ : Packet). n) ws
const_map n [] = refl
const_map n (w ∷ ws) = ap (λ r. n ∷ r) (const_map n ws)

pub twin : (a : Setup) (m : Moment) (e : EgressModel) (plays : Plays a m e) → Enough a → Twin a m e plays
unfolding entered_at entered_in left_at
twin a _ _ begins enough =
    record {
      state = at_start (marking a);
      run = begins;
      waits = none-wait a.edges;
      alike = record { levels = refl; queues = refl; sending = refl; tick = refl };
      entered = λ class. refl;
      left_too = λ class. refl;
    }
twin a _ _ (comes {e = e} cs plays some) enough =
    let it = twin a left e plays enough in
    record {
      state = come_phase cs it.state;
      run = comes cs it.run (All-weaker (MayCome a) (MayCome (marking a)) (comes_too a) cs some);
      waits = come-alike cs e.gates it.state.gates it.waits;
      alike = it.alike;
      entered = it.entered;
      left_too = it.left_too;
    }
twin a _ _ (passes {e = e} plays) enough =
    let it = twin a came e plays enough in
    let all = all-alike a.room a.classes e.gates it.state.gates e.machine it.state.machine it.waits it.alike in
    let edge = all-true a.edges it.state.gates (goes_on (marking a) came it.state (marking-enough a enough) it.run).edges in
    record {
      state = pass_phase a.room a.classes it.state;
      run = passes it.run;
      waits = all.waits;
      alike = all.machine;
      entered = λ class.
          ap (λ r. r ++ map (λ (_ : Packet). e.machine.tick) (entering a.classes class e.machine.tick e.gates (all_passers a.room a.classes e.gates e.machine))) (it.entered class)
          ∙ ap (λ r. map edge_of (entered_in (marking a) class it.run) ++ r)
          (marks a.classes class e.machine.tick e.gates it.state.gates (all_passers a.room a.classes e.gates e.machine) it.waits edge
          ∙ ap (λ rows. map edge_of (entering a.classes class e.machine.tick it.state.gates rows)) all.rows
          ∙ ap (λ n. map edge_of (entering a.classes class n it.state.gates (all_passers a.room a.classes it.state.gates it.state.machine))) it.alike.tick)
          ∙ sym (map-append edge_of (entered_in (marking a) class it.run)
          (entering a.classes class it.state.machine.tick it.state.gates (all_passers a.room a.classes it.state.gates it.state.machine)));
      left_too = it.left_too;
    }
twin a _ _ (takes {e = e} plays clock) enough =
    let it = twin a passed e plays enough in
    record {
      state = take_phase it.state;
      run = takes it.run (let same = it.alike.tick in omega arith);
      waits = it.waits;
      alike = take-alike e.machine it.state.machine it.alike;
      entered = it.entered;
      left_too = it.left_too;
    }
twin a _ _ (leaves {e = e} plays) enough =
    let it = twin a took e plays enough in
    record {
      state = leave_phase it.state;
      run = leaves it.run;
      waits = it.waits;
      alike = leave-alike e.machine it.state.machine it.alike;
      entered = it.entered;
      left_too = λ class.
          let here = gone_of a.classes class (gone_at (e.machine.tick + 1) e.machine.sending) in
          let there = gone_of a.classes class (gone_at (it.state.machine.tick + 1) it.state.machine.sending) in
          ap (λ r. r ++ map (λ (_ : Packet). e.machine.tick + 1) here) (it.left_too class)
          ∙ ap (λ r. left_at (marking a) class it.run ++ r)
          (sym (const_map (e.machine.tick + 1) here)
          ∙ ap (map (λ (_ : Packet). e.machine.tick + 1)) (gone-alike a.classes class e.machine it.state.machine it.alike)
          ∙ const_map (e.machine.tick + 1) there
          ∙ ap (λ n. map (λ (_ : Packet). n + 1) there) it.alike.tick);
    }

-- what is being sent is of the class of its flow
abbrev pub Its : Setup → Option Sending → Type 0
Its a None = Unit {0}
Its a (Some x) = (flow_at a.flows x.packet.flow).class ≡ class_of a.classes x.packet

begun_its : (a : Setup) (t : ℕ) (v : Taken) → ((c : ℕ) (w : Packet) → v ≡ taken c w → (flow_at a.flows w.flow).class ≡ class_of a.classes w) → Its a (begun t v)
begun_its a t (taken c w) its = its c w refl
begun_its a t Nothing its = tt

taking-its : (a : Setup) (s : MachineModel) (o : Option Sending) → s.sending ≡ o → Its a o → Its a (begun s.tick (taken_from 0 s.queues)) → Its a (after_taking s o).sending
taking-its a s None is its next = next
taking-its a s (Some x) is its next = subst (Its a) (sym is) its

still-its : (a : Setup) (n : ℕ) (o : Option Sending) → Its a o → Its a (still (gone_at n o))
still-its a n None its = tt
still-its a n (Some x) its =
    elim (cases_Bool (eqb x.until n)) [
      | inl now ↦ rw now tt
      | inr later ↦ rw later its
    ]

pub sends_its : (a : Setup) (m : Moment) (e : EgressModel) → Enough a → Plays a m e → Its a e.machine.sending
sends_its a _ _ enough begins = tt
sends_its a _ _ enough (comes {e = e} cs plays some) = sends_its a left e enough plays
sends_its a _ _ enough (passes {e = e} plays) =
    subst (Its a) (sym (same_sending a.room a.classes e.gates e.machine)) (sends_its a came e enough plays)
sends_its a _ _ enough (takes {e = e} plays clock) =
    taking-its a e.machine e.machine.sending refl (sends_its a passed e enough plays)
    (begun_its a e.machine.tick (taken_from 0 e.machine.queues)
    (λ c w is.
    let queued = first_queued a e.machine enough (goes_on a passed e enough plays).reached c w is in
    let it = first_taken e.machine.queues c w is in
    queued.class ∙ sym (first-of a passed e enough plays c w it.others it.line)))
sends_its a _ _ enough (leaves {e = e} plays) = still-its a (e.machine.tick + 1) e.machine.sending (sends_its a took e enough plays)

-- the ticks at which packets left are within so many of their marks
abbrev pub Timely : ℕ → List ℕ → List Packet → Type 0
Timely most [] [] = Unit {0}
Timely most [] (w ∷ ws) = ⊥
Timely most (t ∷ ts) [] = ⊥
Timely most (t ∷ ts) (w ∷ ws) = (t ≤ w.edge + most) × Timely most ts ws

timely-both : (most : ℕ) (ts us : List ℕ) (ws xs : List Packet) → Timely most ts ws → Timely most us xs → Timely most (ts ++ us) (ws ++ xs)
timely-both most [] us [] xs timely also = also
timely-both most [] us (w ∷ ws) xs timely also = absurd timely
timely-both most (t ∷ ts) us [] xs timely also = absurd timely
timely-both most (t ∷ ts) us (w ∷ ws) xs timely also = (timely.0, timely-both most ts us ws xs timely.1 also)

timely_at : (most : ℕ) (ts : List ℕ) (ws rest : List Packet) (n : ℕ) → Timely most ts ws → n < length ts → get_or ts n 0 ≤ get_or (map edge_of (ws ++ rest)) n 0 + most
timely_at most [] [] rest n timely within = absurd (omega arith)
timely_at most [] (w ∷ ws) rest n timely within = absurd timely
timely_at most (t ∷ ts) [] rest n timely within = absurd timely
timely_at most (t ∷ ts) (w ∷ ws) rest zero timely within = timely.0
timely_at most (t ∷ ts) (w ∷ ws) rest (suc n) timely within = timely_at most ts ws rest n timely.1 (omega arith)

-- what leaves in a tick
module _ (a : Setup) (class : ℕ) (all_enter : (k : ℕ) → a.enters k ≡ true) (enough : Enough a) where
  abbrev due : ℕ
  due = promise a.port class a.flows

  gone-timely : (s : MachineModel) (o : Option Sending) → s.sending ≡ o → Its a o →
      ((w : Packet) → gone_at (s.tick + 1) s.sending ≡ Gone w → s.tick + 1 ≤ w.edge + promise a.port (flow_at a.flows w.flow).class a.flows) →
      Timely due (map (λ (_ : Packet). s.tick + 1) (gone_of a.classes class (gone_at (s.tick + 1) o))) (gone_of a.classes class (gone_at (s.tick + 1) o))
  gone-timely s None is its in_time = tt
  gone-timely s (Some x) is its in_time =
      elim (cases_Bool (eqb x.until (s.tick + 1))) [
        | inl now ↦
            let here : gone_at (s.tick + 1) (Some x) ≡ Gone x.packet = rw now refl in
            let leaves_now = in_time x.packet (ap (gone_at (s.tick + 1)) is ∙ here) in
            rw now (elim (cases_Bool (eqb (class_of a.classes x.packet) class)) [
              | inl same ↦
                  let to : (flow_at a.flows x.packet.flow).class ≡ class = its ∙ eqb-true (class_of a.classes x.packet) class same in
                  rw same (subst (λ c. s.tick + 1 ≤ x.packet.edge + promise a.port c a.flows) to leaves_now, tt)
              | inr other ↦ rw other tt
            ])
        | inr later ↦ rw later tt
      ]

  pub timely : (m : Moment) (e : EgressModel) (plays : Plays a m e) → Timely due (left_at a class plays) (left_in a class plays)
  unfolding left_at left_in
  timely _ _ begins = tt
  timely _ _ (comes {e = e} cs plays some) = timely left e plays
  timely _ _ (passes {e = e} plays) = timely came e plays
  timely _ _ (takes {e = e} plays clock) = timely passed e plays
  timely _ _ (leaves {e = e} plays) =
      timely-both due (left_at a class plays)
      (map (λ (_ : Packet). e.machine.tick + 1) (gone_of a.classes class (gone_at (e.machine.tick + 1) e.machine.sending)))
      (left_in a class plays) (gone_of a.classes class (gone_at (e.machine.tick + 1) e.machine.sending))
      (timely took e plays)
      (gone-timely e.machine e.machine.sending refl (sends_its a took e enough plays)
      (λ w gone.
      leaves_in_time a.enters a.port a.flows a.room a.classes e.machine w enough.within (goes_on a took e enough plays).reached (all_enter w.flow) gone))

pub each_in_time : EachInTime
each_in_time a m e plays class n enough low within =
    let it = twin a m e plays enough in
    let also = marking-enough a enough in
    let rest : List Packet = being_sent a.classes class it.state.machine.sending ++ get_or it.state.machine.queues class [] in
    let order = nobody_lost (marking a) m it.state it.run class also low in
    let all = timely (marking a) class (λ k. refl) also m it.state it.run in
    let late = timely_at (promise a.port class a.flows) (left_at (marking a) class it.run) (left_in (marking a) class it.run) rest n all (omega (arith, ap length (it.left_too class))) in
    subst (λ ts. get_or ts n 0 ≤ get_or (entered_at a class plays) n 0 + promise a.port class a.flows) (sym (it.left_too class))
    (subst (λ es. get_or (left_at (marking a) class it.run) n 0 ≤ get_or es n 0 + promise a.port class a.flows)
    (ap (map edge_of) order ∙ sym (it.entered class)) late)
