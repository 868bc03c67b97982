-- Along a road the packets of a flow are in the order in which they came from its source. Assumes nothing.
use Rattle.std.proofs.Common.{◌≡◌, ℕ, zero, suc, ◌+◌, ◌^◌, ◌<◌, ◌≤◌, true, List, [], ◌∷◌, ◌++◌, map, length, replicate, sym, refl, ap, ◌∙◌, subst, inl, inr, arith}
use Rattle.std.specs.List.{AllByRecursion as Each}
use Rattle.std.proofs.ByRecursion.{All-get_or}
use Rattle.std.proofs.lemmas.List.{append_assoc, append-nil}
use Rattle.std.proofs.lemmas.Bool.{cases_Bool, cases_eq, eq-eqb, ne_eqb}
use Rattle.flows.specs.Net.{NetModel, port_at}
use Rattle.flows.specs.Flow.{FlowModel, SoundFlow}
use Rattle.promises.specs.Promises.{goes}
use Rattle.admission.specs.Rules.{Fits}
use Rattle.lines.specs.declared.packet.Packet.{Packet}
use Rattle.gates.specs.Laws.{of_class, of_flow}
use Rattle.machine.specs.Phases.{leaves as gone_at}
use Rattle.port.specs.Port.{flow_at}
use Rattle.egress.specs.Plays.{left}
use Rattle.egress.specs.Histories.{in_turn, for_gate, gone_of}
use Rattle.egress.proofs.HistoryLaws.{of_both}
use Rattle.egress.proofs.PlaceLaws.{each-apart}
use Rattle.network.specs.Network.{starts, inner_gate, gate_of, setup_of, leaving, at_end, still_on, Sourced, from_wires, from_sources, coming, net_left, net_run}
use Rattle.network.specs.Line.{lengths, at_port, on_wire, along, delivered, lengths_in, from_source}
use Rattle.network.specs.Admitted.{OfFlow}
use Rattle.network.specs.Laws.{NobodyLost}
use Rattle.network.proofs.RoadLaws.{goes_next, starts_none, before_is}
use Rattle.network.proofs.SetupLaws.{enough, class_there, many_gates}
use Rattle.network.proofs.PlayLaws.{playing}
use Rattle.network.proofs.WireLaws.{for-both, gone-class, coming-one}
use Rattle.network.proofs.TogetherLaws.{lefts, cames, left-is, came-is, directed-so, ends-low}
use Rattle.network.proofs.EndLaws.{road_some}
use Rattle.network.proofs.AlongLaws.{head_or}
use Rattle.network.proofs.SourceLaws.{wires-none}
use Rattle.network.proofs.LineLaws.{lengths-both, of-onward, of-own-class, through}

-- rows that follow each other
turn-both : (rows others : List (List Packet)) → in_turn (rows ++ others) ≡ in_turn rows ++ in_turn others
unfolding in_turn
turn-both [] others = refl
turn-both (row ∷ rows) others = ap (λ x. row ++ x) (turn-both rows others) ∙ sym (append_assoc row (in_turn rows) (in_turn others))

turn-one : (row : List Packet) → in_turn (row ∷ []) ≡ row
unfolding in_turn
turn-one row = append-nil row

turn-end : (rows : List (List Packet)) → in_turn rows ≡ at_end rows ++ in_turn (still_on rows)
unfolding in_turn at_end still_on
turn-end [] = refl
turn-end (row ∷ rows) = refl

turn-none : (n : ℕ) → in_turn (replicate n []) ≡ []
unfolding in_turn
turn-none zero = refl
turn-none (suc n) = turn-none n

module _ (net : NetModel) (fs : List FlowModel) (sound : Each (SoundFlow net) fs) (fits : Fits net fs) (rows : ℕ → List Sourced) (from : (t : ℕ) → Each (OfFlow fs) (rows t))
    (last : ℕ) (in_time : last + 255 < 2 ^ 64) (flow : ℕ) (listed : flow < length fs) where
  sure : SoundFlow net (flow_at fs flow)
  sure = All-get_or (SoundFlow net) fs flow _ listed sound

  -- what has left a port of the flow
  Gone : ℕ → ℕ → List Packet
  Gone p t = of_flow flow (lefts net fs sound fits rows from (flow_at fs flow).class p t)

  Came : ℕ → ℕ → List Packet
  Came q t = of_flow flow (cames net fs sound fits rows from (gate_of fs q flow) q t)

  -- on a wire a tick more
  wire-start : (p : ℕ) → Gone p 0 ≡ on_wire (net_left net fs rows 0) flow p
  unfolding Gone lefts net_left of_flow
  wire-start p = ap (of_flow flow) (sym (turn-none (suc (port_at net p).wire)))

  wire-step : (p t : ℕ) (there : List Packet) → Gone p t ≡ there ++ on_wire (net_left net fs rows t) flow p →
      Gone p (suc t) ≡ (there ++ of_flow flow (at_end ((net_left net fs rows t).wire p))) ++ on_wire (net_left net fs rows (suc t)) flow p
  unfolding Gone lefts net_left
  wire-step p t there sofar =
      let wire : List (List Packet) = (net_left net fs rows t).wire p in
      let m = ((net_run net fs rows t).port p).machine in
      let now : List Packet = of_flow flow (at_end wire) in
      let still : List Packet = of_flow flow (in_turn (still_on wire)) in
      let more : List Packet = of_flow flow (leaving (net_run net fs rows t) p) in
      let old : List Packet = lefts net fs sound fits rows from (flow_at fs flow).class p t in
      let gone : of_flow flow (gone_of (setup_of net fs p).classes (flow_at fs flow).class (gone_at (m.tick + 1) m.sending)) ≡ more =
      ap (of_flow flow) (gone-class (setup_of net fs p).classes (flow_at fs flow).class (gone_at (m.tick + 1) m.sending))
      ∙ of-own-class flow (setup_of net fs p).classes (flow_at fs flow).class (class_there fs flow listed) (leaving (net_run net fs rows t) p) in
      let on : on_wire (net_left net fs rows t) flow p ≡ now ++ still = ap (of_flow flow) (turn-end wire) ∙ of_both flow (at_end wire) (in_turn (still_on wire)) in
      let next : of_flow flow (in_turn (still_on wire ++ leaving (net_run net fs rows t) p ∷ [])) ≡ still ++ more =
      ap (of_flow flow) (turn-both (still_on wire) (leaving (net_run net fs rows t) p ∷ []) ∙ ap (λ x. in_turn (still_on wire) ++ x) (turn-one (leaving (net_run net fs rows t) p)))
      ∙ of_both flow (in_turn (still_on wire)) (leaving (net_run net fs rows t) p) in
      of_both flow old (gone_of (setup_of net fs p).classes (flow_at fs flow).class (gone_at (m.tick + 1) m.sending))
      ∙ ap (λ x. of_flow flow old ++ x) gone
      ∙ ap (λ x. x ++ more) (sofar ∙ ap (λ x. there ++ x) on ∙ sym (append_assoc there now still))
      ∙ append_assoc (there ++ now) still more
      ∙ ap (λ x. (there ++ now) ++ x) (sym next)

  -- from the last wire it is delivered
  last-wire : (p t : ℕ) → Gone p t ≡ delivered net fs rows flow p t ++ on_wire (net_left net fs rows t) flow p
  unfolding delivered
  last-wire p zero = wire-start p
  last-wire p (suc t) = wire-step p t (delivered net fs rows flow p t) (last-wire p t)

  gate-inner : (p q : ℕ) → goes p q (flow_at fs flow).road ≡ true → gate_of fs q flow ≡ inner_gate fs p (flow_at fs flow).class
  gate-inner p q on =
      elim (cases_Bool (starts q (flow_at fs flow).road)) [
        | inl first ↦ absurd (starts_none p q (flow_at fs flow).road sure.route.once first on)
        | inr not ↦ rw not (ap (λ x. inner_gate fs x (flow_at fs flow).class) (before_is p q (flow_at fs flow).road sure.route.once on))
      ]

  -- from another it comes to the next port
  arrived : (p q t : ℕ) → t ≤ last → p < length net.ports → goes p q (flow_at fs flow).road ≡ true →
      of_flow flow (for_gate (gate_of fs q flow) (coming net fs (rows t) (net_left net fs rows t) q)) ≡ of_flow flow (at_end ((net_left net fs rows t).wire p))
  arrived p q t until known on =
      ap (λ k. of_flow flow (for_gate k (coming net fs (rows t) (net_left net fs rows t) q))) (gate-inner p q on)
      ∙ ap (of_flow flow) (coming-one net fs sound p (flow_at fs flow).class q (rows t) (net_left net fs rows t) sure.ranges.class_low known (from t) (ends-low net fs sound fits rows from last in_time t until))
      ∙ of-onward flow fs p q on (of_class (map (λ (f : FlowModel). f.class) fs) (flow_at fs flow).class (at_end ((net_left net fs rows t).wire p)))
      ∙ of-own-class flow (map (λ (f : FlowModel). f.class) fs) (flow_at fs flow).class (class_there fs flow listed) (at_end ((net_left net fs rows t).wire p))

  link : (p q t : ℕ) → t ≤ last → p < length net.ports → goes p q (flow_at fs flow).road ≡ true → Gone p t ≡ Came q t ++ on_wire (net_left net fs rows t) flow p
  unfolding Came cames of_flow
  link p q zero until known on = wire-start p
  link p q (suc t) until known on =
      wire-step p t (Came q t) (link p q t (omega arith) known on)
      ∙ ap (λ x. (Came q t ++ x) ++ on_wire (net_left net fs rows (suc t)) flow p) (sym (arrived p q t (omega arith) known on))
      ∙ ap (λ x. x ++ on_wire (net_left net fs rows (suc t)) flow p)
      (sym (of_both flow (cames net fs sound fits rows from (gate_of fs q flow) q t) (for_gate (gate_of fs q flow) (coming net fs (rows t) (net_left net fs rows t) q))))

  -- through a port
  port-line : (q t : ℕ) → t ≤ last → gate_of fs q flow < length (setup_of net fs q).edges →
      lengths (Came q t) ≡ lengths (Gone q t) ++ lengths (at_port fs (net_left net fs rows t) flow q)
  unfolding Came Gone
  port-line q t until within =
      let plays = (playing net fs sound fits rows from last in_time t until).plays q in
      ap (λ ws. lengths (of_flow flow ws)) (sym (came-is net fs sound fits rows from last in_time (gate_of fs q flow) q t until))
      ∙ through flow (setup_of net fs q) (gate_of fs q) (flow_at fs flow).class (class_there fs flow listed) sure.ranges.class_low left ((net_left net fs rows t).port q) plays
      (enough net fs sound fits q) (directed-so net fs sound fits rows from last in_time t q until) within
      ∙ ap (λ ws. lengths (of_flow flow ws) ++ lengths (at_port fs (net_left net fs rows t) flow q)) (left-is net fs sound fits rows from last in_time (flow_at fs flow).class q t until)

  -- from the source
  sources-lengths : (q : ℕ) → starts q (flow_at fs flow).road ≡ true → (xs : List Sourced) → lengths (of_flow flow (for_gate flow (from_sources fs q xs))) ≡ lengths_in flow xs
  unfolding for_gate from_sources of_flow lengths_in
  sources-lengths q first [] = refl
  sources-lengths q first (x ∷ xs) =
      elim (cases_eq x.flow flow) [
        | inl is ↦
            let here : starts q (flow_at fs x.flow).road ≡ true = ap (λ k. starts q (flow_at fs k).road) is ∙ first in
            rw (here, eq-eqb x.flow flow is) (rw (eq-eqb x.flow flow is) (ap (λ l. x.length ∷ l) (sources-lengths q first xs)))
        | inr not ↦
            elim (cases_Bool (starts q (flow_at fs x.flow).road)) [
              | inl here ↦ rw (here, ne_eqb x.flow flow not) (sources-lengths q first xs)
              | inr away ↦ rw (away, ne_eqb x.flow flow not) (sources-lengths q first xs)
            ]
      ]

  source-line : (q t : ℕ) → starts q (flow_at fs flow).road ≡ true → lengths (Came q t) ≡ from_source flow rows t
  unfolding Came cames from_source of_flow
  source-line q zero first = refl
  source-line q (suc t) first =
      let gate : gate_of fs q flow ≡ flow = rw first refl in
      let new : List Packet = for_gate (gate_of fs q flow) (coming net fs (rows t) (net_left net fs rows t) q) in
      let all : lengths (of_flow flow new) ≡ lengths_in flow (rows t) =
      ap (λ k. lengths (of_flow flow (for_gate k (coming net fs (rows t) (net_left net fs rows t) q)))) gate
      ∙ ap (λ ws. lengths (of_flow flow ws)) (for-both flow (from_wires fs q (net_left net fs rows t) (length net.ports)) (from_sources fs q (rows t))
      ∙ ap (λ ws. ws ++ for_gate flow (from_sources fs q (rows t))) (wires-none fs q flow listed (net_left net fs rows t) (length net.ports)))
      ∙ sources-lengths q first (rows t) in
      ap lengths (of_both flow (cames net fs sound fits rows from (gate_of fs q flow) q t) new)
      ∙ lengths-both (Came q t) (of_flow flow new)
      ∙ ap (λ l. l ++ lengths (of_flow flow new)) (source-line q t first)
      ∙ ap (λ l. from_source flow rows t ++ l) all

  goes-head : (front : List ℕ) (x end : ℕ) (ys : List ℕ) → goes x (head_or end ys) (front ++ x ∷ (ys ++ end ∷ [])) ≡ true
  goes-head front x end [] = goes_next front x end []
  goes-head front x end (y ∷ ys) = goes_next front x y (ys ++ end ∷ [])

  -- all along the road
  whole-line : (t : ℕ) → t ≤ last → (front ps : List ℕ) (end : ℕ) → (flow_at fs flow).road ≡ front ++ (ps ++ end ∷ []) →
      gate_of fs (head_or end ps) flow < length (setup_of net fs (head_or end ps)).edges →
      lengths (Came (head_or end ps) t) ≡ lengths (delivered net fs rows flow end t ++ along fs (net_left net fs rows t) flow (ps ++ end ∷ []))
  unfolding along
  whole-line t until front [] end road within =
      let gone : List Packet = delivered net fs rows flow end t in
      let wire : List Packet = on_wire (net_left net fs rows t) flow end in
      let here : List Packet = at_port fs (net_left net fs rows t) flow end in
      port-line end t until within
      ∙ ap (λ ws. lengths ws ++ lengths here) (last-wire end t)
      ∙ sym (lengths-both (gone ++ wire) here)
      ∙ ap lengths (append_assoc gone wire here)
  whole-line t until front (x ∷ ys) end road within =
      let q : ℕ = head_or end ys in
      let gone : List Packet = delivered net fs rows flow end t in
      let wire : List Packet = on_wire (net_left net fs rows t) flow x in
      let here : List Packet = at_port fs (net_left net fs rows t) flow x in
      let rest : List Packet = along fs (net_left net fs rows t) flow (ys ++ end ∷ []) in
      let on : goes x (head_or end ys) (flow_at fs flow).road ≡ true = ap (goes x (head_or end ys)) road ∙ goes-head front x end ys in
      let known : x < length net.ports =
      (each-apart (λ y. y < length net.ports) front (x ∷ (ys ++ end ∷ [])) (subst (Each (λ y. y < length net.ports)) road sure.route.known)).1.0 in
      let next : gate_of fs (head_or end ys) flow < length (setup_of net fs (head_or end ys)).edges =
      omega (arith, gate-inner x (head_or end ys) on, many_gates net fs, sure.ranges.class_low) in
      port-line x t until within
      ∙ ap (λ ws. lengths ws ++ lengths here) (link x (head_or end ys) t until known on)
      ∙ ap (λ l. l ++ lengths here) (lengths-both (Came (head_or end ys) t) wire
      ∙ ap (λ l. l ++ lengths wire) (whole-line t until (front ++ x ∷ []) ys end (road ∙ sym (append_assoc front (x ∷ []) (ys ++ end ∷ []))) next)
      ∙ sym (lengths-both (gone ++ rest) wire))
      ∙ sym (lengths-both ((gone ++ rest) ++ wire) here)
      ∙ ap lengths (append_assoc (gone ++ rest) wire here ∙ append_assoc gone rest (wire ++ here))

-- the first port of a road
starts-first : (ps : List ℕ) (end : ℕ) → starts (head_or end ps) (ps ++ end ∷ []) ≡ true
unfolding starts
starts-first [] end = eq-eqb end end refl
starts-first (x ∷ ps) end = eq-eqb x x refl

pub nobody_lost : NobodyLost
nobody_lost net fs rows t flow end before admitted in_time road =
    let listed = road_some fs flow end before [] road in
    let first : starts (head_or end before) (flow_at fs flow).road ≡ true = ap (starts (head_or end before)) road ∙ starts-first before end in
    let gate : gate_of fs (head_or end before) flow ≡ flow = rw first refl in
    sym (whole-line net fs admitted.sound admitted.fits rows admitted.sources t in_time flow listed t (omega arith) [] before end road (omega (arith, gate, many_gates net fs, listed)))
    ∙ source-line net fs admitted.sound admitted.fits rows admitted.sources t in_time flow listed (head_or end before) t first
