-- A regulator costs nothing, and a source that keeps to its flow does not wait. Assumes nothing.
use Rattle.std.proofs.Common.{◌≡◌, ℕ, zero, suc, ◌+◌, ◌-◌, ◌^◌, ◌<◌, ◌≤◌, Bool, true, false, cond, eqb, List, [], ◌∷◌, ◌++◌, length, sym, refl, ap, ◌∙◌, subst, inl, inr, arith}
use Rattle.std.specs.List.{AllByRecursion as Each}
use Rattle.std.proofs.ByRecursion.{All-weaker}
use Rattle.std.proofs.lemmas.Bool.{cases_Bool, cases_eq, cases_lt, eq-eqb, ne_eqb}
use Rattle.std.proofs.lemmas.List.{get_or_past}
use Rattle.flows.specs.Net.{NetModel, port_at}
use Rattle.flows.specs.Flow.{FlowModel, SoundFlow}
use Rattle.promises.specs.Promises.{goes}
use Rattle.admission.specs.Rules.{Fits}
use Rattle.lines.specs.declared.packet.Packet.{Packet}
use Rattle.levels.specs.Regular.{Pass, Regular}
use Rattle.gates.specs.Laws.{passing}
use Rattle.port.specs.Port.{flow_at, no_flow}
use Rattle.egress.specs.Egress.{Accepted, gate_at}
use Rattle.egress.specs.Plays.{left, passed}
use Rattle.egress.specs.Histories.{for_gate, onward, came_to, Owns, OwnRegulator, sent_on}
use Rattle.egress.proofs.OnwardLaws.{port_to_port}
use Rattle.egress.proofs.CostLaws.{costs_nothing}
use Rattle.egress.proofs.SourceLaws.{regular_waits_not}
use Rattle.network.specs.Network.{starts, port_before, inner_gate, gate_of, setup_of, NetState, at_end, from_wire, from_wires, Sourced, from_sources, coming, net_left}
use Rattle.network.specs.Held.{net_at, sent_in, sent_before}
use Rattle.network.specs.Admitted.{OfFlow}
use Rattle.network.specs.Laws.{CostsNothing, RegularWaitsNot}
use Rattle.network.proofs.SetupLaws.{enough, many_gates}
use Rattle.network.proofs.PlayLaws.{row_at, tick_at, step, at_first, playing}
use Rattle.network.proofs.WireLaws.{for-both}
use Rattle.network.proofs.TogetherLaws.{aimed}
use Rattle.network.proofs.MomentLaws.{plays_to}

pub costless : CostsNothing
costless net fs last port run sound fits t p q c bound until sooner known low within =
    let before = run.plays (t - suc (port_at net p).wire) p sooner in
    let there = (port_to_port (setup_of net fs p) (setup_of net fs q) (inner_gate fs p c) c (port_at net p).wire left left
    (port (t - suc (port_at net p).wire) p) (port t q) before (run.plays t q until) (enough net fs sound fits p) low (run.comes t p q c until sooner known low)).0 in
    (costs_nothing (setup_of net fs q) left (port t q) (run.plays t q until) (gate_of fs q) (inner_gate fs p c) bound (sent_on (setup_of net fs p) c q before)
    (enough net fs sound fits q) (omega (arith, many_gates net fs)) (run.directed t q until)
    (record { order = there.order; regular = there.regular; within = within })).0

module _ (fs : List FlowModel) (q flow : ℕ) (listed : flow < length fs) where
  -- nobody comes to an edge over a wire
  wire-none : (p : ℕ) (ws : List Packet) → for_gate flow (from_wire fs p q ws) ≡ []
  unfolding for_gate onward
  wire-none p [] = refl
  wire-none p (w ∷ ws) =
      elim (cases_Bool (goes p q (flow_at fs w.flow).road)) [
        | inl on ↦
            let other : eqb (inner_gate fs p (flow_at fs w.flow).class) flow ≡ false = ne_eqb (inner_gate fs p (flow_at fs w.flow).class) flow (λ e. omega arith) in
            rw (on, other) (wire-none p ws)
        | inr off ↦ rw off (wire-none p ws)
      ]

  pub wires-none : (s : NetState) (n : ℕ) → for_gate flow (from_wires fs q s n) ≡ []
  unfolding from_wires for_gate
  wires-none s zero = refl
  wires-none s (suc n) =
      for-both flow (from_wires fs q s n) (from_wire fs n q (at_end (s.wire n)))
      ∙ ap (λ ws. ws ++ for_gate flow (from_wire fs n q (at_end (s.wire n)))) (wires-none s n)
      ∙ wire-none n (at_end (s.wire n))

  -- what comes there is what the source sends
  sources-sent : starts q (flow_at fs flow).road ≡ true → (t : ℕ) (xs : List Sourced) (h : List Pass) →
      passing t (for_gate flow (from_sources fs q xs)) h ≡ sent_in flow t xs h
  unfolding for_gate from_sources passing sent_in
  sources-sent first t [] h = refl
  sources-sent first t (x ∷ xs) h =
      elim (cases_eq x.flow flow) [
        | inl is ↦
            let here : starts q (flow_at fs x.flow).road ≡ true = ap (λ k. starts q (flow_at fs k).road) is ∙ first in
            rw (here, eq-eqb x.flow flow is) (sources-sent first t xs (record { at = t; len = x.length } ∷ h))
        | inr not ↦
            elim (cases_Bool (starts q (flow_at fs x.flow).road)) [
              | inl here ↦ rw (here, ne_eqb x.flow flow not) (sources-sent first t xs h)
              | inr away ↦ rw (away, ne_eqb x.flow flow not) (sources-sent first t xs h)
            ]
      ]

  coming-sent : starts q (flow_at fs flow).road ≡ true → (net : NetModel) (t : ℕ) (row : List Sourced) (s : NetState) (h : List Pass) →
      passing t (for_gate flow (coming net fs row s q)) h ≡ sent_in flow t row h
  coming-sent first net t row s h =
      ap (λ ws. passing t ws h) (for-both flow (from_wires fs q s (length net.ports)) (from_sources fs q row)
      ∙ ap (λ ws. ws ++ for_gate flow (from_sources fs q row)) (wires-none s (length net.ports)))
      ∙ sources-sent first t row h

  -- a regulator at the edge is of its flow alone
  owns-one : starts q (flow_at fs flow).road ≡ true → (c : Accepted) → gate_of fs q c.packet.flow ≡ c.gate → Owns flow flow c
  owns-one first c aims =
      record {
        only = λ is. by (starts q (flow_at fs c.packet.flow).road) (aims ∙ is);
        all = λ is. sym aims ∙ ap (gate_of fs q) is ∙ rw first refl;
      }
    where
      by : (b : Bool) → cond b c.packet.flow (inner_gate fs (port_before q (flow_at fs c.packet.flow).road) (flow_at fs c.packet.flow).class) ≡ flow → c.packet.flow ≡ flow
      by true is = is
      by false is = absurd (omega arith)

module _ (net : NetModel) (fs : List FlowModel) (sound : Each (SoundFlow net) fs) (fits : Fits net fs) (rows : ℕ → List Sourced) (from : (t : ℕ) → Each (OfFlow fs) (rows t))
    (last : ℕ) (in_time : last + 255 < 2 ^ 64) (q flow : ℕ) (listed : flow < length fs) (first : starts q (flow_at fs flow).road ≡ true) where
  came-sent : (t : ℕ) (until : t ≤ last) → came_to (setup_of net fs q) flow ((playing net fs sound fits rows from last in_time t until).plays q) ≡ sent_before flow rows t
  unfolding playing step at_first came_to sent_before
  came-sent zero until = refl
  came-sent (suc t) until =
      ap (λ n. passing n (for_gate flow (coming net fs (rows t) (net_left net fs rows t) q)) (came_to (setup_of net fs q) flow ((playing net fs sound fits rows from last in_time t (omega arith)).plays q))) (tick_at net fs sound rows t q)
      ∙ coming-sent fs q flow listed first net t (rows t) (net_left net fs rows t) (came_to (setup_of net fs q) flow ((playing net fs sound fits rows from last in_time t (omega arith)).plays q))
      ∙ ap (sent_in flow t (rows t)) (came-sent t (omega arith))

  owns-all : (t : ℕ) → t ≤ last → Each (Owns flow flow) (row_at net fs sound fits rows from t q)
  owns-all t until =
      All-weaker (λ (c : Accepted). gate_of fs q c.packet.flow ≡ c.gate) (Owns flow flow) (owns-one fs q flow listed first) (row_at net fs sound fits rows from t q)
      (aimed net fs sound fits rows from last in_time t q until)

  owns-so : (t : ℕ) (until : t ≤ last) → OwnRegulator (setup_of net fs q) flow flow ((playing net fs sound fits rows from last in_time t until).plays q)
  unfolding playing step at_first OwnRegulator
  owns-so zero until = tt
  owns-so (suc t) until = (owns-all t (omega arith), owns-so t (omega arith))

  waits-not : (t : ℕ) → t ≤ last → Regular (flow_at fs flow).burst (flow_at fs flow).rate (sent_before flow rows (suc t)) →
      (gate_at ((net_at net fs rows passed t).port q).gates flow).waits ≡ []
  unfolding plays_to came_to sent_before OwnRegulator
  waits-not t until regular =
      let sent : came_to (setup_of net fs q) flow (plays_to net fs sound fits rows from last in_time passed t until q) ≡ sent_before flow rows (suc t) =
      ap (λ n. passing n (for_gate flow (coming net fs (rows t) (net_left net fs rows t) q)) (came_to (setup_of net fs q) flow ((playing net fs sound fits rows from last in_time t until).plays q))) (tick_at net fs sound rows t q)
      ∙ coming-sent fs q flow listed first net t (rows t) (net_left net fs rows t) (came_to (setup_of net fs q) flow ((playing net fs sound fits rows from last in_time t until).plays q))
      ∙ ap (sent_in flow t (rows t)) (came-sent t until) in
      (regular_waits_not (setup_of net fs q) ((net_at net fs rows passed t).port q) (plays_to net fs sound fits rows from last in_time passed t until q) flow flow
      (enough net fs sound fits q) (omega (arith, many_gates net fs)) (owns-all t until, owns-so t until)
      (subst (Regular (flow_at fs flow).burst (flow_at fs flow).rate) (sym sent) regular)).1

pub source_waits_not : RegularWaitsNot
unfolding starts
source_waits_not net fs rows t q flow admitted in_time first regular =
    elim (cases_lt flow (length fs)) [
      | inl listed ↦ waits-not net fs admitted.sound admitted.fits rows admitted.sources t in_time q flow listed first t (omega arith) regular
      | inr past ↦
          let never : false ≡ true = sym (ap (λ (f : FlowModel). starts q f.road) (get_or_past fs flow no_flow past)) ∙ first in
          cc
    ]
