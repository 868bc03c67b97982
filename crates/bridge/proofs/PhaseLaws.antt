-- A tick at a port is the phases of a tick. Assumes nothing.
use Rattle.std.proofs.Common.{◌≡◌, ℕ, suc, ◌+◌, ◌^◌, ◌<◌, Bool, false, true, Some, None, Option, List, [], ◌∷◌, ◌++◌, map, length, get_or, refl, sym, ap, ◌∙◌, subst, arith}
use Rattle.std.proofs.Math.Seq.{get_or-append_seam}
use Rattle.std.proofs.lemmas.List.{append_assoc, length-append, map-append}
use Rattle.std.specs.List.{AllByRecursion as Each}
use Rattle.lines.specs.declared.packet.Packet.{Packet}
use Rattle.levels.specs.Levels.{LevelModel}
use Rattle.gates.specs.Gates.{Opened, opened}
use Rattle.machine.specs.declared.sending.Sending.{Sending}
use Rattle.machine.specs.declared.leaving.Leaving.{Leaving}
use Rattle.machine.specs.declared.leaving.Leaving.TheVariants.{Gone, Busy, Idle}
use Rattle.machine.specs.Phases.{leaves as gone_at}
use Rattle.machine.specs.Joint.{MachineModel}
use Rattle.machine.specs.Runs.{after_open}
use Rattle.regulators.specs.declared.coming.Coming.{Coming}
use Rattle.regulators.specs.Judged.{edge_accepts, inner_accepts, GateTick}
use Rattle.regulators.specs.Laws.{Parts, nobody, these, those, packets_of, TickDoes}
use Rattle.regulators.proofs.JudgedLaws.{tick-all}
use Rattle.regulators.proofs.EdgeExactLaws.{edge_laws}
use Rattle.regulators.proofs.InnerExactLaws.{inner_laws}
use Rattle.egress.specs.Egress.{GateModel, EgressModel, numbered, put_rows, still_waits, with_gate, open_all, take_phase, come_phase}
use Rattle.egress.specs.Plays.{Setup, MayCome, Belongs, Enough, Plays, left, took, begins, comes, passes, takes, leaves}
use Rattle.egress.proofs.ApartLaws.{come-by-row}
use Rattle.egress.proofs.GoesLaws.{goes_on, in_time, kept_queues}
use Rattle.egress.proofs.PlaceLaws.{each-both, each-apart}
use Rattle.egress.proofs.TickLaws.{same_tick}
use Rattle.egress.proofs.EgressLaws.{egress_laws}
use Rattle.bridge.specs.Ports.{gone, port_tick, Stand, edge, inside, is_edge, GateState, PortState, tick_at, one_tick, gate_after, GatesTick, gates_tick, then_takes}
use Rattle.bridge.specs.Comes.{one_more, ComesTo}
use Rattle.bridge.specs.Runs.{gate_model, egress_of, Runs, begins as starts, comes as one_comes, ticks}
use Rattle.bridge.proofs.ExampleLaws.{worked}
use Rattle.bridge.proofs.RoomLaws.{room_kept}
use Rattle.bridge.proofs.RefusedLaws.{nobody_refused}
use Rattle.bridge.specs.Laws.{numbers_of, EachDoes, none, also, TickIsPhases, Comes, PlaysOn, LeavesOn, LeavesInTime, QueuesKept, BridgeLaws}

module _ (room : ℕ) (classes : List ℕ) (tick : ℕ) where
  does_at : (stand : Stand) (ws : List Packet) (levels : List LevelModel) (ls : List (List Packet)) (coming : List Coming) →
      TickDoes (tick_at room classes tick stand ws levels ls) room (is_edge stand) classes tick ws levels ls coming
  does_at (edge flow) ws levels ls coming = edge_laws.does room classes tick ws levels ls coming
  does_at (inside from class aside) ws levels ls coming = inner_laws.does aside room classes tick ws levels ls coming

  -- the regulator is opened with those who waited and those who were accepted
  opened_at : (stand : Stand) (ws : List Packet) (levels : List LevelModel) (ls : List (List Packet)) (coming : List Coming)
      (does : TickDoes (tick_at room classes tick stand ws levels ls) room (is_edge stand) classes tick ws levels ls coming) →
      opened room (is_edge stand) classes tick (ws ++ packets_of does.accepted) levels ls ≡ (tick_at room classes tick stand ws levels ls coming).opened
  opened_at (edge flow) ws levels ls coming does =
      let all = tick-all (edge_accepts room classes tick levels ls) room true classes tick ws levels ls does.accepted (ap (λ (t : GateTick). t.refused) does.alone) in
      ap (λ (t : GateTick). t.opened) (sym all ∙ does.alone)
  opened_at (inside from class aside) ws levels ls coming does =
      let all = tick-all (inner_accepts aside) room false classes tick ws levels ls does.accepted (ap (λ (t : GateTick). t.refused) does.alone) in
      ap (λ (t : GateTick). t.opened) (sym all ∙ does.alone)

  abbrev machine_of : List LevelModel → List (List Packet) → Option Sending → MachineModel
  machine_of levels ls sending = record { levels = levels; queues = ls; sending = sending; tick = tick }

  abbrev opened_of : GatesTick → Option Sending → EgressModel
  opened_of t sending = record { gates = map gate_model t.gates; machine = machine_of t.levels t.queues sending }

  record Built (gates : List GateState) (levels : List LevelModel) (ls : List (List Packet)) (t : GatesTick) : Type 0 where
    accepted : List (List Coming)
    others : List (List Coming)
    each : EachDoes room classes tick gates levels ls accepted others
    numbers : t.refused ≡ numbers_of others
    opens : (sending : Option Sending) →
        open_all room classes (put_rows (map packets_of accepted) (map gate_model gates)) (machine_of levels ls sending) ≡ opened_of t sending
    stand : map (λ (g : GateState). g.stand) t.gates ≡ map (λ (g : GateState). g.stand) gates
    nobody : Each (λ (g : GateState). g.coming ≡ []) t.gates

  built : (gates : List GateState) (levels : List LevelModel) (ls : List (List Packet)) → Built gates levels ls (gates_tick room classes tick gates levels ls)
  unfolding gates_tick open_all put_rows numbers_of
  built [] levels ls =
      record { accepted = []; others = []; each = none; numbers = refl; opens = λ sending. refl; stand = refl; nobody = tt }
  built (g ∷ gates) levels ls =
      let one = one_tick room classes tick g levels ls in
      let does = does_at g.stand g.waits levels ls g.coming in
      let rest = built gates one.opened.levels one.opened.queues in
      record {
        accepted = does.accepted ∷ rest.accepted;
        others = does.others ∷ rest.others;
        each = also does rest.each;
        numbers =
            ap (λ ns. ns ++ (gates_tick room classes tick gates one.opened.levels one.opened.queues).refused) does.numbers
            ∙ ap (λ ns. map (λ (c : Coming). c.number) does.others ++ ns) rest.numbers;
        opens = λ sending.
            let gate : GateModel = record { at_edge = is_edge g.stand; waits = g.waits ++ packets_of does.accepted } in
            ap (λ (o : Opened). with_gate (still_waits gate o) (open_all room classes (put_rows (map packets_of rest.accepted) (map gate_model gates)) (after_open (machine_of levels ls sending) o)))
            (opened_at g.stand g.waits levels ls g.coming does)
            ∙ ap (with_gate (gate_model (gate_after g one))) (rest.opens sending);
        stand = ap (λ ss. g.stand ∷ ss) rest.stand;
        nobody = (refl, rest.nobody);
      }

  -- then the port takes
  takes_then : (t : GatesTick) (sending : Option Sending) → egress_of tick (then_takes tick sending t).port ≡ take_phase (opened_of t sending)
  takes_then t None = refl
  takes_then t (Some s) = refl

  same_numbers : (t : GatesTick) (sending : Option Sending) → (then_takes tick sending t).refused ≡ t.refused
  same_numbers t None = refl
  same_numbers t (Some s) = refl

  same_gates : (t : GatesTick) (sending : Option Sending) → (then_takes tick sending t).port.gates ≡ t.gates
  same_gates t None = refl
  same_gates t (Some s) = refl

  tick_is_phases : (s : PortState) → TickIsPhases room classes tick s
  tick_is_phases s =
      let all = built s.gates s.levels s.queues in
      let t = gates_tick room classes tick s.gates s.levels s.queues in
      record {
        accepted = all.accepted;
        others = all.others;
        each = all.each;
        numbers = same_numbers t s.sending ∙ all.numbers;
        phases =
            takes_then t s.sending ∙ ap take_phase (sym (all.opens s.sending))
            ∙ ap (λ gs. take_phase (open_all room classes gs (machine_of s.levels s.queues s.sending))) (sym (come-by-row (map packets_of all.accepted) (map gate_model s.gates)));
        stand = ap (map (λ (g : GateState). g.stand)) (same_gates t s.sending) ∙ all.stand;
        nobody = subst (Each (λ (g : GateState). g.coming ≡ [])) (sym (same_gates t s.sending)) all.nobody;
      }

-- those who are accepted are among those who come
accepted_are : (P : Coming → Type 0) {coming accepted others : List Coming} → Parts coming accepted others → Each P coming → Each P accepted
accepted_are P nobody each = tt
accepted_are P (these c parts) each = (each.0, accepted_are P parts each.1)
accepted_are P (those c parts) each = accepted_are P parts each.1

module _ (a : Setup) (tick : ℕ) where
  row_comes : (k : ℕ) (before after : List Bool) (at_edge : Bool) → a.edges ≡ before ++ at_edge ∷ after → length before ≡ k → (row : List Coming) →
      Each (λ c. Belongs a at_edge c.packet) row → Each (MayCome a) (map (λ (w : Packet). record { gate = k; packet = w }) (packets_of row))
  row_comes k before after at_edge edges many [] each = tt
  row_comes k before after at_edge edges many (c ∷ row) each =
      let there : get_or a.edges k false ≡ at_edge =
      rw (edges, ← many) (get_or-append_seam before at_edge after false) in
      let long : length a.edges ≡ length before + suc (length after) = ap length edges ∙ length-append before (at_edge ∷ after) in
      (record { within = omega arith; belongs = rw there each.0 }, row_comes k before after at_edge edges many row each.1)

  all_come : {gates : List GateState} {levels : List LevelModel} {ls : List (List Packet)} {accepted others : List (List Coming)} (k : ℕ) (before : List Bool) →
      a.edges ≡ before ++ map (λ (g : GateState). is_edge g.stand) gates → length before ≡ k →
      EachDoes a.room a.classes tick gates levels ls accepted others → Each (Comes a) gates → Each (MayCome a) (numbered k (map packets_of accepted))
  unfolding numbered
  all_come k before edges many none each = tt
  all_come k before edges many (also {g = g} {gates = gates} {accepted = accepted} does rest) each =
      let after = map (λ (h : GateState). is_edge h.stand) gates in
      let row = row_comes k before after (is_edge g.stand) edges many does.accepted (accepted_are (λ c. Belongs a (is_edge g.stand) c.packet) does.parts each.0) in
      let more : length (before ++ is_edge g.stand ∷ []) ≡ k + 1 = length-append before (is_edge g.stand ∷ []) ∙ ap (λ n. n + 1) many in
      each-both (MayCome a) _ _ row
      (all_come (k + 1) (before ++ is_edge g.stand ∷ []) (edges ∙ sym (append_assoc before (is_edge g.stand ∷ []) after)) more rest each.1)

edges_are : (gates : List GateState) → map (λ (g : GateModel). g.at_edge) (map gate_model gates) ≡ map (λ (g : GateState). is_edge g.stand) gates
edges_are [] = refl
edges_are (g ∷ gates) = ap (λ bs. is_edge g.stand ∷ bs) (edges_are gates)

plays_on : PlaysOn
plays_on a tick s enough plays come clock =
    let is = tick_is_phases a.room a.classes tick s in
    let cs = numbered 0 (map packets_of is.accepted) in
    let edges = sym (goes_on a left (egress_of tick s) enough plays).edges ∙ edges_are s.gates in
    let some = all_come a tick 0 [] edges refl is.each come in
    let e = come_phase cs (egress_of tick s) in
    let later : (open_all a.room a.classes e.gates e.machine).machine.tick + 255 < 2 ^ 64 = rw (same_tick a.room a.classes e.gates e.machine) clock in
    subst (Plays a took) (sym is.phases) (takes (passes (comes cs plays some)) later)

pub leaves_on : LeavesOn
leaves_on a tick s plays = leaves plays

-- who comes waits not yet
same_models : (own : Stand → Bool) (c : Coming) (before after : List GateState) → ComesTo own c before after → map gate_model after ≡ map gate_model before
same_models own c before after to =
    ap (map gate_model) to.comes
    ∙ map-append gate_model to.earlier (one_more to.gate c ∷ to.later)
    ∙ sym (ap (map gate_model) to.found ∙ map-append gate_model to.earlier (to.gate ∷ to.later))

one_more_comes : (a : Setup) (own : Stand → Bool) (c : Coming) (before after : List GateState) (to : ComesTo own c before after) → Each (Comes a) before →
    Belongs a (is_edge to.gate.stand) c.packet → Each (Comes a) after
one_more_comes a own c before after to each belongs =
    let apart = each-apart (Comes a) to.earlier (to.gate ∷ to.later) (subst (Each (Comes a)) to.found each) in
    let more = each-both (λ (x : Coming). Belongs a (is_edge to.gate.stand) x.packet) to.gate.coming (c ∷ []) apart.1.0 (belongs, tt) in
    subst (Each (Comes a)) (sym to.comes) (each-both (Comes a) to.earlier (one_more to.gate c ∷ to.later) apart.0 (more, apart.1.1))

none_come : (a : Setup) (gates : List GateState) → Each (λ (g : GateState). g.coming ≡ []) gates → Each (Comes a) gates
none_come a [] empty = tt
none_come a (g ∷ gates) empty =
    (subst (Each (λ (x : Coming). Belongs a (is_edge g.stand) x.packet)) (sym empty.0) tt, none_come a gates empty.1)

machine_from : (levels others : List LevelModel) (ls ms : List (List Packet)) (sending : Option Sending) (gates more : List GateModel) →
    levels ≡ others → ls ≡ ms → sending ≡ None → gates ≡ more →
    let e : EgressModel = record { gates = more; machine = record { levels = others; queues = ms; sending = None; tick = 0 } } in
    let f : EgressModel = record { gates = gates; machine = record { levels = levels; queues = ls; sending = sending; tick = 0 } } in
    e ≡ f
machine_from levels others ls ms sending gates more lv qs sent gs = cc

runs_play : (a : Setup) (tick : ℕ) (s : PortState) → Enough a → Runs a tick s → Plays a left (egress_of tick s) × Each (Comes a) s.gates
runs_play a _ s enough (starts at) =
    (subst (Plays a left) (machine_from _ _ _ _ _ _ _ at.levels at.queues at.sending at.gates) begins, none_come a s.gates at.nobody)
runs_play a _ _ enough (one_comes {tick = tick} {s = s} {gates = gates} {own = own} {c = c} to run belongs) =
    let sofar = runs_play a tick s enough run in
    let same : map gate_model gates ≡ map gate_model s.gates = same_models own c s.gates gates to in (
      subst (λ gs. Plays a left (record { gates = gs; machine = record { levels = s.levels; queues = s.queues; sending = s.sending; tick = tick } })) (sym same) sofar.0,
      one_more_comes a own c s.gates gates to sofar.1 belongs,
    )
runs_play a _ _ enough (ticks {tick = tick} {s = s} run clock) =
    let sofar = runs_play a tick s enough run in
    let is = tick_is_phases a.room a.classes tick s in
    (leaves (plays_on a tick s enough sofar.0 sofar.1 clock), none_come a _ is.nobody)

is_gone : (l : Leaving) (packet : Packet) → gone l ≡ Some packet → l ≡ Gone packet
is_gone (Gone p) packet is = cc
is_gone (Busy sending) packet is = cc
is_gone Idle packet is = cc

leaves_in_time : LeavesInTime
leaves_in_time a tick s packet enough run clock enters left_it =
    let sofar = runs_play a tick s enough run in
    let plays = plays_on a tick s enough sofar.0 sofar.1 clock in
    let after = egress_of tick (port_tick a.room a.classes tick s).port in
    in_time a [] after packet enough plays enters (is_gone (gone_at (tick + 1) after.machine.sending) packet left_it)

queues_kept : QueuesKept
queues_kept a tick s c enough run = kept_queues a left (egress_of tick s) c enough (runs_play a tick s enough run).0

pub bridge_laws : BridgeLaws
bridge_laws =
    record {
      phases = tick_is_phases;
      plays = plays_on;
      leaves = leaves_on;
      runs = λ a tick s enough run. (runs_play a tick s enough run).0;
      in_time = leaves_in_time;
      queues = queues_kept;
      room = room_kept;
      nobody = nobody_refused;
      worked = worked;
      egress = egress_laws;
    }
