-- The ports of a net play together. Assumes nothing.
use Rattle.std.proofs.Common.{◌≡◌, ℕ, zero, suc, ◌+◌, ◌-◌, ◌^◌, ◌<◌, ◌≤◌, List, [], ◌∷◌, ◌++◌, map, length, sym, refl, ap, ◌∙◌, subst, inl, inr, arith, length-append}
use Rattle.std.specs.List.{AllByRecursion as Each}
use Rattle.std.proofs.ByRecursion.{All-weaker, All-get_or}
use Rattle.std.proofs.lemmas.List.{length-map, map-append, get_or_past}
use Rattle.std.proofs.lemmas.Bool.{cases_lt}
use Rattle.flows.specs.Net.{NetModel, port_at}
use Rattle.flows.specs.Flow.{FlowModel, SoundFlow}
use Rattle.admission.specs.Rules.{Fits}
use Rattle.lines.specs.declared.packet.Packet.{Packet}
use Rattle.gates.specs.Gates.{class_of}
use Rattle.gates.specs.Laws.{of_class}
use Rattle.machine.specs.Phases.{leaves as gone_at}
use Rattle.port.specs.Port.{flow_at, no_flow}
use Rattle.egress.specs.Egress.{EgressModel, Accepted}
use Rattle.egress.specs.Plays.{Moment, left, MayCome, Plays}
use Rattle.egress.specs.Histories.{for_gate, gone_of, onward, beside, left_in, left_at, came_by, came_at, Directed}
use Rattle.egress.specs.Laws.{ComesFrom}
use Rattle.network.specs.Network.{inner_gate, gate_of, setup_of, leaving, at_end, Sourced, coming, net_left, net_run}
use Rattle.network.specs.Admitted.{OfFlow}
use Rattle.network.specs.Laws.{PlaysTogether}
use Rattle.network.proofs.PlayLaws.{Good, row_at, step, at_first, playing, tick_at, end-each, coming-right}
use Rattle.network.proofs.WireLaws.{onward-both, beside-both, row-later, gone-class, coming-one, row_of, at_the_end}

module _ (net : NetModel) (fs : List FlowModel) (sound : Each (SoundFlow net) fs) (fits : Fits net fs) (rows : ℕ → List Sourced) (from : (t : ℕ) → Each (OfFlow fs) (rows t)) where
  -- what has left a port in a class, and when, by tick
  unfoldable pub lefts : ℕ → ℕ → ℕ → List Packet
  lefts c p zero = []
  lefts c p (suc t) =
      lefts c p t ++ gone_of (setup_of net fs p).classes c (gone_at (((net_run net fs rows t).port p).machine.tick + 1) ((net_run net fs rows t).port p).machine.sending)

  unfoldable pub lefts_at : ℕ → ℕ → ℕ → List ℕ
  lefts_at c p zero = []
  lefts_at c p (suc t) =
      lefts_at c p t ++ map (λ (_ : Packet). ((net_run net fs rows t).port p).machine.tick + 1)
      (gone_of (setup_of net fs p).classes c (gone_at (((net_run net fs rows t).port p).machine.tick + 1) ((net_run net fs rows t).port p).machine.sending))

  -- what has come to a regulator, and when, by tick
  unfoldable pub cames : ℕ → ℕ → ℕ → List Packet
  cames k q zero = []
  cames k q (suc t) = cames k q t ++ for_gate k (coming net fs (rows t) (net_left net fs rows t) q)

  unfoldable pub cames_at : ℕ → ℕ → ℕ → List ℕ
  cames_at k q zero = []
  cames_at k q (suc t) =
      cames_at k q t ++ map (λ (_ : Packet). ((net_left net fs rows t).port q).machine.tick) (for_gate k (coming net fs (rows t) (net_left net fs rows t) q))

  module _ (last : ℕ) (in_time : last + 255 < 2 ^ 64) where
    pub left-is : (c p t : ℕ) (until : t ≤ last) → left_in (setup_of net fs p) c ((playing net fs sound fits rows from last in_time t until).plays p) ≡ lefts c p t
    unfolding playing step at_first left_in lefts
    left-is c p zero until = refl
    left-is c p (suc t) until =
        ap (λ ws. ws ++ gone_of (setup_of net fs p).classes c (gone_at (((net_run net fs rows t).port p).machine.tick + 1) ((net_run net fs rows t).port p).machine.sending)) (left-is c p t (omega arith))

    pub left-at-is : (c p t : ℕ) (until : t ≤ last) → left_at (setup_of net fs p) c ((playing net fs sound fits rows from last in_time t until).plays p) ≡ lefts_at c p t
    unfolding playing step at_first left_at lefts_at
    left-at-is c p zero until = refl
    left-at-is c p (suc t) until =
        ap (λ ts. ts ++ map (λ (_ : Packet). ((net_run net fs rows t).port p).machine.tick + 1)
        (gone_of (setup_of net fs p).classes c (gone_at (((net_run net fs rows t).port p).machine.tick + 1) ((net_run net fs rows t).port p).machine.sending))) (left-at-is c p t (omega arith))

    pub came-is : (k q t : ℕ) (until : t ≤ last) → came_by (setup_of net fs q) k ((playing net fs sound fits rows from last in_time t until).plays q) ≡ cames k q t
    unfolding playing step at_first came_by cames
    came-is k q zero until = refl
    came-is k q (suc t) until = ap (λ ws. ws ++ for_gate k (coming net fs (rows t) (net_left net fs rows t) q)) (came-is k q t (omega arith))

    pub came-at-is : (k q t : ℕ) (until : t ≤ last) → came_at (setup_of net fs q) k ((playing net fs sound fits rows from last in_time t until).plays q) ≡ cames_at k q t
    unfolding playing step at_first came_at cames_at
    came-at-is k q zero until = refl
    came-at-is k q (suc t) until =
        ap (λ ts. ts ++ map (λ (_ : Packet). ((net_left net fs rows t).port q).machine.tick) (for_gate k (coming net fs (rows t) (net_left net fs rows t) q))) (came-at-is k q t (omega arith))

    -- on the wires are packets of flows, with their classes
    no-class : (flow : ℕ) → (flow_at fs flow).class ≤ 7
    no-class flow =
        elim (cases_lt flow (length fs)) [
          | inl listed ↦ (All-get_or (SoundFlow net) fs flow no_flow listed sound).ranges.class_low
          | inr past ↦ subst (λ (f : FlowModel). f.class ≤ 7) (sym (get_or_past fs flow no_flow past)) (omega arith)
        ]

    abbrev LowClass : Packet → Type 0
    LowClass w = ((flow_at fs w.flow).class ≤ 7) × (class_of (map (λ (f : FlowModel). f.class) fs) w ≡ (flow_at fs w.flow).class)

    pub ends-low : (t : ℕ) → t ≤ last → (p : ℕ) → Each LowClass (at_end ((net_left net fs rows t).wire p))
    ends-low t until p =
        All-weaker (Good net fs sound p) LowClass (λ w good. (no-class w.flow, good.class)) (at_end ((net_left net fs rows t).wire p))
        (end-each net fs sound (Good net fs sound p) ((net_left net fs rows t).wire p) ((playing net fs sound fits rows from last in_time t until).wires p))

    pub new-come : (p c q t : ℕ) → p < length net.ports → c ≤ 7 → t ≤ last →
        for_gate (inner_gate fs p c) (coming net fs (rows t) (net_left net fs rows t) q) ≡
        onward fs p q (of_class (map (λ (f : FlowModel). f.class) fs) c (row_of net fs rows p (t - (port_at net p).wire)))
    new-come p c q t known low until =
        coming-one net fs sound p c q (rows t) (net_left net fs rows t) low known (from t) (ends-low t until)
        ∙ ap (λ ws. onward fs p q (of_class (map (λ (f : FlowModel). f.class) fs) c ws)) (at_the_end net fs rows p t)

  -- what leaves in a tick is the last of what has left
  lefts-step : (c p s : ℕ) → lefts c p s ≡ lefts c p (s - 1) ++ of_class (map (λ (f : FlowModel). f.class) fs) c (row_of net fs rows p s)
  unfolding lefts row_of of_class
  lefts-step c p zero = refl
  lefts-step c p (suc s) =
      let before : s ≡ suc s - 1 = omega arith in
      ap (λ ws. lefts c p s ++ ws) (gone-class (setup_of net fs p).classes c (gone_at (((net_run net fs rows s).port p).machine.tick + 1) ((net_run net fs rows s).port p).machine.sending))
      ∙ ap (λ n. lefts c p n ++ of_class (map (λ (f : FlowModel). f.class) fs) c (leaving (net_run net fs rows s) p)) before

  lefts_at-step : (c p s : ℕ) → lefts_at c p s ≡ lefts_at c p (s - 1) ++ map (λ (_ : Packet). s) (of_class (map (λ (f : FlowModel). f.class) fs) c (row_of net fs rows p s))
  unfolding lefts_at row_of of_class net_left
  lefts_at-step c p zero = refl
  lefts_at-step c p (suc s) =
      let before : s ≡ suc s - 1 = omega arith in
      let tick : ((net_run net fs rows s).port p).machine.tick + 1 ≡ suc s = tick_at net fs sound rows (suc s) p in
      ap (λ ws. lefts_at c p s ++ map (λ (_ : Packet). ((net_run net fs rows s).port p).machine.tick + 1) ws)
      (gone-class (setup_of net fs p).classes c (gone_at (((net_run net fs rows s).port p).machine.tick + 1) ((net_run net fs rows s).port p).machine.sending))
      ∙ ap (λ n. lefts_at c p s ++ map (λ (_ : Packet). n) (of_class (map (λ (f : FlowModel). f.class) fs) c (leaving (net_run net fs rows s) p))) tick
      ∙ ap (λ n. lefts_at c p n ++ map (λ (_ : Packet). suc s) (of_class (map (λ (f : FlowModel). f.class) fs) c (leaving (net_run net fs rows s) p))) before

  pub as_many-left : (c p t : ℕ) → length (lefts c p t) ≡ length (lefts_at c p t)
  unfolding lefts lefts_at
  as_many-left c p zero = refl
  as_many-left c p (suc t) =
      let new : List Packet = gone_of (setup_of net fs p).classes c (gone_at (((net_run net fs rows t).port p).machine.tick + 1) ((net_run net fs rows t).port p).machine.sending) in
      omega (
        arith,
        as_many-left c p t,
        length-append (lefts c p t) new,
        length-append (lefts_at c p t) (map (λ (_ : Packet). ((net_run net fs rows t).port p).machine.tick + 1) new),
        length-map new (λ (_ : Packet). ((net_run net fs rows t).port p).machine.tick + 1),
      )

  module _ (last : ℕ) (in_time : last + 255 < 2 ^ 64) (p c q : ℕ) (known : p < length net.ports) (low : c ≤ 7) where
    abbrev table : List ℕ
    table = map (λ (f : FlowModel). f.class) fs

    nothing-onward : onward fs p q (lefts c p 0) ≡ []
    unfolding lefts onward
    nothing-onward = refl

    cames-are : (t : ℕ) → t ≤ suc last → cames (inner_gate fs p c) q t ≡ onward fs p q (lefts c p (t - suc (port_at net p).wire))
    unfolding cames
    cames-are zero until =
        let start : 0 - suc (port_at net p).wire ≡ 0 = omega arith in
        sym (ap (λ n. onward fs p q (lefts c p n)) start ∙ nothing-onward)
    cames-are (suc t) until =
        let s : ℕ = t - (port_at net p).wire in
        let before : t - suc (port_at net p).wire ≡ s - 1 = omega arith in
        let after : s ≡ suc t - suc (port_at net p).wire = omega arith in
        let new : List Packet = of_class (map (λ (f : FlowModel). f.class) fs) c (row_of net fs rows p s) in
        ap (λ ws. ws ++ for_gate (inner_gate fs p c) (coming net fs (rows t) (net_left net fs rows t) q)) (cames-are t (omega arith))
        ∙ ap (λ ws. onward fs p q (lefts c p (t - suc (port_at net p).wire)) ++ ws) (new-come last in_time p c q t known low (omega arith))
        ∙ ap (λ n. onward fs p q (lefts c p n) ++ onward fs p q new) before
        ∙ sym (onward-both fs p q (lefts c p (s - 1)) new)
        ∙ ap (onward fs p q) (sym (lefts-step c p s))
        ∙ ap (λ n. onward fs p q (lefts c p n)) after

    nothing-beside : map (λ t. t + (port_at net p).wire) (beside fs p q (lefts c p 0) (lefts_at c p 0)) ≡ []
    unfolding lefts beside
    nothing-beside = refl

    -- where none left before the first tick
    row-then : (t : ℕ) → map (λ t. t + (port_at net p).wire)
        (beside fs p q (of_class (map (λ (f : FlowModel). f.class) fs) c (row_of net fs rows p (t - (port_at net p).wire)))
        (map (λ (_ : Packet). t - (port_at net p).wire) (of_class (map (λ (f : FlowModel). f.class) fs) c (row_of net fs rows p (t - (port_at net p).wire)))))
        ≡ map (λ (_ : Packet). t) (onward fs p q (of_class (map (λ (f : FlowModel). f.class) fs) c (row_of net fs rows p (t - (port_at net p).wire))))
    unfolding row_of of_class beside onward
    row-then t =
        elim (cases_lt t (port_at net p).wire) [
          | inl less ↦
              let start : 0 ≡ t - (port_at net p).wire = omega arith in
              subst (λ s. map (λ t. t + (port_at net p).wire)
              (beside fs p q (of_class (map (λ (f : FlowModel). f.class) fs) c (row_of net fs rows p s)) (map (λ (_ : Packet). s) (of_class (map (λ (f : FlowModel). f.class) fs) c (row_of net fs rows p s))))
              ≡ map (λ (_ : Packet). t) (onward fs p q (of_class (map (λ (f : FlowModel). f.class) fs) c (row_of net fs rows p s)))) start refl
          | inr more ↦
              row-later fs p q (t - (port_at net p).wire) (port_at net p).wire t (of_class (map (λ (f : FlowModel). f.class) fs) c (row_of net fs rows p (t - (port_at net p).wire))) (omega arith)
        ]

    ticks-are : (t : ℕ) → t ≤ suc last → cames_at (inner_gate fs p c) q t ≡
        map (λ t. t + (port_at net p).wire) (beside fs p q (lefts c p (t - suc (port_at net p).wire)) (lefts_at c p (t - suc (port_at net p).wire)))
    unfolding cames_at
    ticks-are zero until =
        let start : 0 - suc (port_at net p).wire ≡ 0 = omega arith in
        sym (ap (λ n. map (λ t. t + (port_at net p).wire) (beside fs p q (lefts c p n) (lefts_at c p n))) start ∙ nothing-beside)
    ticks-are (suc t) until =
        let wire : ℕ = (port_at net p).wire in
        let s : ℕ = t - (port_at net p).wire in
        let before : t - suc (port_at net p).wire ≡ s - 1 = omega arith in
        let after : s ≡ suc t - suc (port_at net p).wire = omega arith in
        let new : List Packet = of_class (map (λ (f : FlowModel). f.class) fs) c (row_of net fs rows p s) in
        let there : List ℕ = beside fs p q (lefts c p (s - 1)) (lefts_at c p (s - 1)) in
        let here : List ℕ = beside fs p q new (map (λ (_ : Packet). s) new) in
        ap (λ ts. ts ++ map (λ (_ : Packet). ((net_left net fs rows t).port q).machine.tick) (for_gate (inner_gate fs p c) (coming net fs (rows t) (net_left net fs rows t) q))) (ticks-are t (omega arith))
        ∙ ap (λ n. map (λ t. t + (port_at net p).wire) (beside fs p q (lefts c p n) (lefts_at c p n)) ++ map (λ (_ : Packet). ((net_left net fs rows t).port q).machine.tick) (for_gate (inner_gate fs p c) (coming net fs (rows t) (net_left net fs rows t) q))) before
        ∙ ap (λ ws. map (λ t. t + (port_at net p).wire) there ++ map (λ (_ : Packet). ((net_left net fs rows t).port q).machine.tick) ws) (new-come last in_time p c q t known low (omega arith))
        ∙ ap (λ n. map (λ t. t + (port_at net p).wire) there ++ map (λ (_ : Packet). n) (onward fs p q new)) (tick_at net fs sound rows t q)
        ∙ ap (λ ts. map (λ t. t + (port_at net p).wire) there ++ ts) (sym (row-then t))
        ∙ sym (map-append (λ t. t + (port_at net p).wire) there here)
        ∙ ap (map (λ t. t + (port_at net p).wire)) (sym (beside-both fs p q (lefts c p (s - 1)) new (lefts_at c p (s - 1)) (map (λ (_ : Packet). s) new) (as_many-left c p (s - 1))))
        ∙ ap (λ ws. map (λ t. t + (port_at net p).wire) (beside fs p q ws (lefts_at c p (s - 1) ++ map (λ (_ : Packet). s) new))) (sym (lefts-step c p s))
        ∙ ap (λ ts. map (λ t. t + (port_at net p).wire) (beside fs p q (lefts c p s) ts)) (sym (lefts_at-step c p s))
        ∙ ap (λ n. map (λ t. t + (port_at net p).wire) (beside fs p q (lefts c p n) (lefts_at c p n))) after

    -- what comes to a regulator, at any moment
    pub comes-on : (m : Moment) (e : EgressModel) (plays : Plays (setup_of net fs q) m e) (u : ℕ) → u ≤ suc last → (sooner : u - suc (port_at net p).wire ≤ last) →
        came_by (setup_of net fs q) (inner_gate fs p c) plays ≡ cames (inner_gate fs p c) q u →
        came_at (setup_of net fs q) (inner_gate fs p c) plays ≡ cames_at (inner_gate fs p c) q u →
        ComesFrom (setup_of net fs p) (setup_of net fs q) (inner_gate fs p c) c (port_at net p).wire left m
        ((net_left net fs rows (u - suc (port_at net p).wire)).port p) e
        ((playing net fs sound fits rows from last in_time (u - suc (port_at net p).wire) sooner).plays p) plays
    comes-on m e plays u until sooner came-so at-so =
        record {
          flows = refl;
          packets = came-so ∙ cames-are u until ∙ ap (onward fs p q) (sym (left-is last in_time c p (u - suc (port_at net p).wire) sooner));
          ticks = at-so ∙ ticks-are u until
              ∙ ap (λ ws. map (λ t. t + (port_at net p).wire) (beside fs p q ws (lefts_at c p (u - suc (port_at net p).wire)))) (sym (left-is last in_time c p (u - suc (port_at net p).wire) sooner))
              ∙ ap (λ ts. map (λ t. t + (port_at net p).wire) (beside fs p q (left_in (setup_of net fs p) c ((playing net fs sound fits rows from last in_time (u - suc (port_at net p).wire) sooner).plays p)) ts))
              (sym (left-at-is last in_time c p (u - suc (port_at net p).wire) sooner));
        }

  -- packets of a flow come to its regulator
  each-second : {X : Type 0} (P Q : X → Type 0) (xs : List X) → Each (λ x. P x × Q x) xs → Each Q xs
  each-second P Q [] each = tt
  each-second P Q (x ∷ xs) each = (each.0.1, each-second P Q xs each.1)

  module _ (last : ℕ) (in_time : last + 255 < 2 ^ 64) where
    pub aimed : (t q : ℕ) → t ≤ last → Each (λ (c : Accepted). gate_of fs q c.packet.flow ≡ c.gate) (row_at net fs sound fits rows from t q)
    aimed t q until =
        each-second (MayCome (setup_of net fs q)) (λ (c : Accepted). gate_of fs q c.packet.flow ≡ c.gate) (row_at net fs sound fits rows from t q)
        (coming-right net fs sound q (rows t) (net_left net fs rows t) (from t)
        (λ p. end-each net fs sound (Good net fs sound p) ((net_left net fs rows t).wire p) ((playing net fs sound fits rows from last in_time t until).wires p)))

    pub directed-so : (t q : ℕ) (until : t ≤ last) → Directed (setup_of net fs q) (gate_of fs q) ((playing net fs sound fits rows from last in_time t until).plays q)
    unfolding playing step at_first Directed
    directed-so zero q until = tt
    directed-so (suc t) q until = (aimed t q (omega arith), directed-so t q (omega arith))

unfoldable pub plays_together : PlaysTogether
plays_together net fs rows last admitted in_time =
    let sound = admitted.sound in
    let fits = admitted.fits in
    let from = admitted.sources in
    record {
      plays = λ t p until. (playing net fs sound fits rows from last in_time t until).plays p;
      directed = λ t p until. directed-so net fs sound fits rows from last in_time t p until;
      comes = λ t p q c until sooner known low.
          comes-on net fs sound fits rows from last in_time p c q known low left ((net_left net fs rows t).port q) ((playing net fs sound fits rows from last in_time t until).plays q) t (omega arith) sooner
          (came-is net fs sound fits rows from last in_time (inner_gate fs p c) q t until)
          (came-at-is net fs sound fits rows from last in_time (inner_gate fs p c) q t until);
    }
