-- The ports of a net play by the phases, tick after tick. Assumes nothing.
use Rattle.std.proofs.Common.{◌≡◌, ℕ, zero, suc, ◌+◌, ◌^◌, ◌<◌, ◌≤◌, true, false, List, [], ◌∷◌, map, length, replicate, sym, refl, ap, ◌∙◌, inl, inr, arith}
use Rattle.std.specs.List.{AllByRecursion as Each}
use Rattle.std.proofs.ByRecursion.{All-get_or}
use Rattle.std.proofs.lemmas.Bool.{cases_Bool}
use Rattle.flows.specs.Net.{NetModel, port_at}
use Rattle.flows.specs.Flow.{FlowModel, SoundFlow}
use Rattle.promises.specs.Promises.{goes}
use Rattle.admission.specs.Rules.{Fits}
use Rattle.lines.specs.declared.packet.Packet.{Packet}
use Rattle.port.specs.Port.{flow_at}
use Rattle.machine.specs.Runs.{Fitting}
use Rattle.egress.specs.Egress.{Accepted, come_phase, pass_phase, take_phase}
use Rattle.egress.specs.Plays.{MayCome, left, took, Plays, begins, comes, passes as passing, takes, leaves}
use Rattle.egress.specs.Histories.{onward}
use Rattle.egress.proofs.GoesLaws.{goes_on}
use Rattle.egress.proofs.TickLaws.{same_tick, taking_tick}
use Rattle.egress.proofs.WindowLaws.{road_listed}
use Rattle.egress.proofs.PlaceLaws.{each-both}
use Rattle.network.specs.Network.{starts, inner_gate, gate_of, setup_of, NetState, leaving, at_end, still_on, behind_inner, from_wire, from_wires, Sourced, from_sources, coming, net_left, net_run}
use Rattle.network.specs.Admitted.{OfFlow}
use Rattle.network.proofs.RoadLaws.{starts_none, goes_stands, starts_stands, before_is}
use Rattle.network.proofs.SetupLaws.{enough, class_there, many_gates, edge_there, inner_there}
use Rattle.network.proofs.SendLaws.{sends-fit, gone-fits}

module _ (net : NetModel) (fs : List FlowModel) (sound : Each (SoundFlow net) fs) where
  abbrev pub Good : ℕ → Packet → Type 0
  Good p w = Fitting p fs (map (λ (f : FlowModel). f.class) fs) w

  abbrev pub Right : ℕ → Accepted → Type 0
  Right q c = MayCome (setup_of net fs q) c × (gate_of fs q c.packet.flow ≡ c.gate)

  road_of : (flow : ℕ) → flow < length fs → SoundFlow net (flow_at fs flow)
  road_of flow listed = All-get_or (SoundFlow net) fs flow _ listed sound

  -- what comes over a wire
  wire-right : (p q : ℕ) → p < length net.ports → (ws : List Packet) → Each (Good p) ws → Each (Right q) (from_wire fs p q ws)
  unfolding onward
  wire-right p q known [] each = tt
  wire-right p q known (w ∷ ws) each =
      elim (cases_Bool (goes p q (flow_at fs w.flow).road)) [
        | inl on ↦ rw on (right on, wire-right p q known ws each.1)
        | inr off ↦ rw off (wire-right p q known ws each.1)
      ]
    where
      right : goes p q (flow_at fs w.flow).road ≡ true → Right q (behind_inner fs p w)
      right on =
          let listed = road_listed fs p q w.flow on in
          let sure = road_of w.flow listed in
          let inside : starts q (flow_at fs w.flow).road ≡ false =
          elim (cases_Bool (starts q (flow_at fs w.flow).road)) [
            | inl first ↦ absurd (starts_none p q (flow_at fs w.flow).road sure.route.once first on)
            | inr not ↦ not
          ] in (
            record {
              within = omega (arith, many_gates net fs, sure.ranges.class_low);
              belongs = (
                record { crosses = goes_stands p q (flow_at fs w.flow).road on; class = each.0.class; some = each.0.some; short = each.0.short },
                inside ∙ sym (inner_there net fs p (flow_at fs w.flow).class known sure.ranges.class_low),
              );
            },
            rw inside (ap (λ x. inner_gate fs x (flow_at fs w.flow).class) (before_is p q (flow_at fs w.flow).road sure.route.once on)),
          )

  wires-right : (q : ℕ) (s : NetState) (n : ℕ) → n ≤ length net.ports → ((p : ℕ) → Each (Good p) (at_end (s.wire p))) → Each (Right q) (from_wires fs q s n)
  unfolding from_wires
  wires-right q s zero few each = tt
  wires-right q s (suc n) few each =
      each-both (Right q) (from_wires fs q s n) (from_wire fs n q (at_end (s.wire n))) (wires-right q s n (omega arith) each)
      (wire-right n q (omega arith) (at_end (s.wire n)) (each n))

  -- what comes from sources
  sources-right : (q : ℕ) (xs : List Sourced) → Each (OfFlow fs) xs → Each (Right q) (from_sources fs q xs)
  unfolding from_sources
  sources-right q [] each = tt
  sources-right q (x ∷ xs) each =
      elim (cases_Bool (starts q (flow_at fs x.flow).road)) [
        | inl first ↦ rw first (
          (
            record {
              within = omega (arith, many_gates net fs, each.0.listed);
              belongs = (
                record { crosses = starts_stands q (flow_at fs x.flow).road first; class = class_there fs x.flow each.0.listed; some = each.0.some; short = each.0.short },
                first ∙ sym (edge_there net fs x.flow each.0.listed),
              );
            },
            rw first refl,
          ),
          sources-right q xs each.1,
        )
        | inr not ↦ rw not (sources-right q xs each.1)
      ]

  pub coming-right : (q : ℕ) (row : List Sourced) (s : NetState) → Each (OfFlow fs) row → ((p : ℕ) → Each (Good p) (at_end (s.wire p))) → Each (Right q) (coming net fs row s q)
  coming-right q row s of each =
      each-both (Right q) (from_wires fs q s (length net.ports)) (from_sources fs q row) (wires-right q s (length net.ports) (omega arith) each) (sources-right q row of)

  -- at a wire's end, and still on it
  pub end-each : (P : Packet → Type 0) (rows : List (List Packet)) → Each (Each P) rows → Each P (at_end rows)
  unfolding at_end
  end-each P [] each = tt
  end-each P (row ∷ rows) each = each.0

  pub still-each : (P : Packet → Type 0) (rows : List (List Packet)) → Each (Each P) rows → Each (Each P) (still_on rows)
  unfolding still_on
  still-each P [] each = tt
  still-each P (row ∷ rows) each = each.1

  -- the ticks of the ports are those of the net
  pub tick_at : (rows : ℕ → List Sourced) (t p : ℕ) → ((net_left net fs rows t).port p).machine.tick ≡ t
  unfolding net_left
  tick_at rows zero p = refl
  tick_at rows (suc t) p =
      let opens = pass_phase (setup_of net fs p).room (setup_of net fs p).classes (come_phase (coming net fs (rows t) (net_left net fs rows t) p) ((net_left net fs rows t).port p)) in
      let same : (take_phase opens).machine.tick ≡ t =
      taking_tick opens.machine opens.machine.sending
      ∙ same_tick (setup_of net fs p).room (setup_of net fs p).classes (come_phase (coming net fs (rows t) (net_left net fs rows t) p) ((net_left net fs rows t).port p)).gates ((net_left net fs rows t).port p).machine
      ∙ tick_at rows t p in
      omega arith

  -- what is on the wires are packets of flows over their ports
  pub record Playing (rows : ℕ → List Sourced) (t : ℕ) : Type 0 where
    pub plays : (p : ℕ) → Plays (setup_of net fs p) left ((net_left net fs rows t).port p)
    pub wires : (p : ℕ) → Each (Each (Good p)) ((net_left net fs rows t).wire p)

  each-first : {X : Type 0} (P Q : X → Type 0) (xs : List X) → Each (λ x. P x × Q x) xs → Each P xs
  each-first P Q [] each = tt
  each-first P Q (x ∷ xs) each = (each.0.0, each-first P Q xs each.1)

  pub none-on : (p n : ℕ) → Each (Each (Good p)) (replicate n [])
  none-on p zero = tt
  none-on p (suc n) = (tt, none-on p n)

  module _ (fits : Fits net fs) (rows : ℕ → List Sourced) (from : (t : ℕ) → Each (OfFlow fs) (rows t)) where
    abbrev pub row_at : ℕ → ℕ → List Accepted
    row_at t p = coming net fs (rows t) (net_left net fs rows t) p

    pub may_come : (t : ℕ) → Playing rows t → (p : ℕ) → Each (MayCome (setup_of net fs p)) (row_at t p)
    may_come t sofar p =
        each-first (MayCome (setup_of net fs p)) (λ c. gate_of fs p c.packet.flow ≡ c.gate) (row_at t p)
        (coming-right p (rows t) (net_left net fs rows t) (from t) (λ x. end-each (Good x) ((net_left net fs rows t).wire x) (sofar.wires x)))

    pub clocked : (t p : ℕ) → t + 255 < 2 ^ 64 →
        (pass_phase (setup_of net fs p).room (setup_of net fs p).classes (come_phase (row_at t p) ((net_left net fs rows t).port p))).machine.tick + 255 < 2 ^ 64
    clocked t p in_time =
        omega (arith, tick_at rows t p, in_time, same_tick (setup_of net fs p).room (setup_of net fs p).classes (come_phase (row_at t p) ((net_left net fs rows t).port p)).gates ((net_left net fs rows t).port p).machine)

    -- a tick more
    abbrev pub took_plays : (t : ℕ) → (sofar : Playing rows t) → t + 255 < 2 ^ 64 → (p : ℕ) → Plays (setup_of net fs p) took ((net_run net fs rows t).port p)
    took_plays t sofar in_time p = takes (passing (comes (row_at t p) (sofar.plays p) (may_come t sofar p))) (clocked t p in_time)

    unfoldable pub step : (t : ℕ) → Playing rows t → t + 255 < 2 ^ 64 → Playing rows (suc t)
    unfolding net_left
    step t sofar in_time =
        record {
          plays = λ p. leaves (took_plays t sofar in_time p);
          wires = λ p.
              let reached = (goes_on (setup_of net fs p) took ((net_run net fs rows t).port p) (enough net fs sound fits p) (took_plays t sofar in_time p)).reached in
              let sends = (sends-fit (setup_of net fs p).enters p fs (setup_of net fs p).room (setup_of net fs p).classes ((net_run net fs rows t).port p).machine reached).1 in
              each-both (Each (Good p)) (still_on ((net_left net fs rows t).wire p)) (leaving (net_run net fs rows t) p ∷ [])
              (still-each (Good p) ((net_left net fs rows t).wire p) (sofar.wires p))
              (gone-fits (setup_of net fs p).enters p fs (setup_of net fs p).room (setup_of net fs p).classes (((net_run net fs rows t).port p).machine.tick + 1) ((net_run net fs rows t).port p).machine.sending sends, tt);
        }

    unfoldable pub at_first : Playing rows 0
    unfolding net_left
    at_first = record { plays = λ p. begins; wires = λ p. none-on p (suc (port_at net p).wire) }

    unfoldable pub playing : (last : ℕ) → last + 255 < 2 ^ 64 → (t : ℕ) → t ≤ last → Playing rows t
    playing last in_time zero until = at_first
    playing last in_time (suc t) until = step t (playing last in_time t (omega arith)) (omega arith)
