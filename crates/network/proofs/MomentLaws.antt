-- The moments of a net between the phases of its ticks. Assumes nothing.
use Rattle.std.proofs.Common.{◌≡◌, ℕ, zero, suc, ◌+◌, ◌-◌, ◌^◌, ◌<◌, ◌≤◌, true, cond, eqb, List, ◌++◌, map, length, sym, refl, ap, ◌∙◌, subst, inl, inr, arith}
use Rattle.std.specs.List.{AllByRecursion as Each}
use Rattle.std.proofs.ByRecursion.{All-weaker}
use Rattle.std.proofs.lemmas.Bool.{cases_eq, eq-eqb, ne_eqb}
use Rattle.flows.specs.Net.{NetModel, port_at}
use Rattle.flows.specs.Flow.{FlowModel, SoundFlow}
use Rattle.promises.specs.Promises.{goes, port_need, regulator_need}
use Rattle.promises.specs.Laws.{Classed, Holding}
use Rattle.promises.proofs.PromiseLaws.{port-covers}
use Rattle.memory.specs.Plans.{class_plan, regulator_plan, switch_plan}
use Rattle.admission.specs.Rules.{Fits}
use Rattle.lines.specs.declared.packet.Packet.{Packet}
use Rattle.queues.specs.Lines.{sum_to}
use Rattle.gates.specs.Gates.{class_of}
use Rattle.port.specs.Port.{flow_at}
use Rattle.egress.specs.Plays.{Moment, left, came, passed, took, Plays, comes, passes, takes}
use Rattle.egress.specs.Histories.{for_gate, left_in, came_by, came_at, onward, Directed, sent_on}
use Rattle.egress.specs.Laws.{GoesHere, ComesFrom}
use Rattle.egress.proofs.WindowLaws.{regulator-kept, road_listed}
use Rattle.egress.proofs.OnwardLaws.{port_to_port}
use Rattle.egress.proofs.GoesLaws.{kept_queues}
use Rattle.network.specs.Network.{inner_gate, gate_of, setup_of, NetState, Sourced, coming, net_left}
use Rattle.network.specs.Held.{net_at, queues_held, regulator_held, classes_held, regulators_held}
use Rattle.network.specs.Admitted.{OfFlow}
use Rattle.network.specs.Laws.{QueuesKept, RegulatorsKept, SwitchesKept, MemoriesKept}
use Rattle.network.proofs.SetupLaws.{enough, class_there, many_gates}
use Rattle.network.proofs.PlayLaws.{row_at, may_come, clocked, playing}
use Rattle.network.proofs.TogetherLaws.{cames, cames_at, came-is, came-at-is, comes-on, aimed, directed-so}
use Rattle.network.proofs.AlongLaws.{left_class, onward-each}

module _ (net : NetModel) (fs : List FlowModel) (sound : Each (SoundFlow net) fs) (fits : Fits net fs) (rows : ℕ → List Sourced) (from : (t : ℕ) → Each (OfFlow fs) (rows t))
    (last : ℕ) (in_time : last + 255 < 2 ^ 64) where
  -- each port plays up to each moment
  unfoldable pub plays_to : (m : Moment) (t : ℕ) → t ≤ last → (q : ℕ) → Plays (setup_of net fs q) m ((net_at net fs rows m t).port q)
  plays_to left t until q = (playing net fs sound fits rows from last in_time t until).plays q
  plays_to came t until q =
      comes (row_at net fs sound fits rows from t q) ((playing net fs sound fits rows from last in_time t until).plays q)
      (may_come net fs sound fits rows from t (playing net fs sound fits rows from last in_time t until) q)
  plays_to passed t until q =
      passes (comes (row_at net fs sound fits rows from t q) ((playing net fs sound fits rows from last in_time t until).plays q)
      (may_come net fs sound fits rows from t (playing net fs sound fits rows from last in_time t until) q))
  plays_to took t until q =
      takes (passes (comes (row_at net fs sound fits rows from t q) ((playing net fs sound fits rows from last in_time t until).plays q)
      (may_come net fs sound fits rows from t (playing net fs sound fits rows from last in_time t until) q))) (clocked net fs sound fits rows from t q (omega arith))

  -- what has come by then came in so many ticks
  abbrev pub upto : Moment → ℕ → ℕ
  upto left t = t
  upto came t = suc t
  upto passed t = suc t
  upto took t = suc t

  came-so : (m : Moment) (k q t : ℕ) (until : t ≤ last) → came_by (setup_of net fs q) k (plays_to m t until q) ≡ cames net fs sound fits rows from k q (upto m t)
  unfolding plays_to came_by cames
  came-so left k q t until = came-is net fs sound fits rows from last in_time k q t until
  came-so came k q t until = ap (λ ws. ws ++ for_gate k (coming net fs (rows t) (net_left net fs rows t) q)) (came-is net fs sound fits rows from last in_time k q t until)
  came-so passed k q t until = ap (λ ws. ws ++ for_gate k (coming net fs (rows t) (net_left net fs rows t) q)) (came-is net fs sound fits rows from last in_time k q t until)
  came-so took k q t until = ap (λ ws. ws ++ for_gate k (coming net fs (rows t) (net_left net fs rows t) q)) (came-is net fs sound fits rows from last in_time k q t until)

  at-so : (m : Moment) (k q t : ℕ) (until : t ≤ last) → came_at (setup_of net fs q) k (plays_to m t until q) ≡ cames_at net fs sound fits rows from k q (upto m t)
  unfolding plays_to came_at cames_at
  at-so left k q t until = came-at-is net fs sound fits rows from last in_time k q t until
  at-so came k q t until = ap (λ ts. ts ++ map (λ (_ : Packet). ((net_left net fs rows t).port q).machine.tick) (for_gate k (coming net fs (rows t) (net_left net fs rows t) q))) (came-at-is net fs sound fits rows from last in_time k q t until)
  at-so passed k q t until = ap (λ ts. ts ++ map (λ (_ : Packet). ((net_left net fs rows t).port q).machine.tick) (for_gate k (coming net fs (rows t) (net_left net fs rows t) q))) (came-at-is net fs sound fits rows from last in_time k q t until)
  at-so took k q t until = ap (λ ts. ts ++ map (λ (_ : Packet). ((net_left net fs rows t).port q).machine.tick) (for_gate k (coming net fs (rows t) (net_left net fs rows t) q))) (came-at-is net fs sound fits rows from last in_time k q t until)

  aimed-so : (m : Moment) (q t : ℕ) (until : t ≤ last) → Directed (setup_of net fs q) (gate_of fs q) (plays_to m t until q)
  unfolding plays_to Directed
  aimed-so left q t until = directed-so net fs sound fits rows from last in_time t q until
  aimed-so came q t until = (aimed net fs sound fits rows from last in_time t q until, directed-so net fs sound fits rows from last in_time t q until)
  aimed-so passed q t until = (aimed net fs sound fits rows from last in_time t q until, directed-so net fs sound fits rows from last in_time t q until)
  aimed-so took q t until = (aimed net fs sound fits rows from last in_time t q until, directed-so net fs sound fits rows from last in_time t q until)

  module _ (m : Moment) (p c q t : ℕ) (until : t ≤ last) (known : p < length net.ports) (low : c ≤ 7) where
    soon : upto m t ≤ suc last
    soon = by m
      where
        by : (n : Moment) → upto n t ≤ suc last
        by left = omega arith
        by came = omega arith
        by passed = omega arith
        by took = omega arith

    pub before_then : upto m t - suc (port_at net p).wire ≤ last
    before_then = omega (arith, soon)

    pub from_port : ComesFrom (setup_of net fs p) (setup_of net fs q) (inner_gate fs p c) c (port_at net p).wire left m
        ((net_left net fs rows (upto m t - suc (port_at net p).wire)).port p) ((net_at net fs rows m t).port q)
        ((playing net fs sound fits rows from last in_time (upto m t - suc (port_at net p).wire) before_then).plays p) (plays_to m t until q)
    from_port =
        comes-on net fs sound fits rows from last in_time p c q known low m ((net_at net fs rows m t).port q) (plays_to m t until q) (upto m t) soon before_then
        (came-so m (inner_gate fs p c) q t until) (at-so m (inner_gate fs p c) q t until)

    -- of the flows that go there
    go-here : Each (GoesHere (setup_of net fs q) p c) (came_by (setup_of net fs q) (inner_gate fs p c) (plays_to m t until q))
    go-here =
        let before = (playing net fs sound fits rows from last in_time (upto m t - suc (port_at net p).wire) before_then).plays p in
        subst (Each (GoesHere (setup_of net fs q) p c)) (sym from_port.packets)
        (All-weaker (λ w. (class_of (setup_of net fs p).classes w ≡ c) × (goes p q (flow_at fs w.flow).road ≡ true)) (GoesHere (setup_of net fs q) p c)
        (λ w of. record { class = sym (class_there fs w.flow (road_listed fs p q w.flow of.1)) ∙ of.0; road = of.1 })
        (onward fs p q (left_in (setup_of net fs p) c before))
        (onward-each (λ w. class_of (setup_of net fs p).classes w ≡ c) fs p q (left_in (setup_of net fs p) c before)
        (left_class (setup_of net fs p) c left ((net_left net fs rows (upto m t - suc (port_at net p).wire)).port p) before)))

    pub kept : regulator_held fs (net_at net fs rows m t) p q c ≤ regulator_need p q c fs
    kept =
        let before = (playing net fs sound fits rows from last in_time (upto m t - suc (port_at net p).wire) before_then).plays p in
        let there = port_to_port (setup_of net fs p) (setup_of net fs q) (inner_gate fs p c) c (port_at net p).wire left m
        ((net_left net fs rows (upto m t - suc (port_at net p).wire)).port p) ((net_at net fs rows m t).port q) before (plays_to m t until q)
        (enough net fs sound fits p) low from_port in
        regulator-kept (setup_of net fs q) m ((net_at net fs rows m t).port q) (plays_to m t until q) (gate_of fs q) (inner_gate fs p c) p c (port_at net p).wire
        (sent_on (setup_of net fs p) c q before) (enough net fs sound fits q) (omega (arith, many_gates net fs)) (aimed-so m q t until) go-here there.0 there.1

pub queues_kept : QueuesKept
queues_kept net fs rows m t q c admitted in_time =
    kept_queues (setup_of net fs q) m ((net_at net fs rows m t).port q) c (enough net fs admitted.sound admitted.fits q)
    (plays_to net fs admitted.sound admitted.fits rows admitted.sources t in_time m t (omega arith) q)

pub regulators_kept : RegulatorsKept
regulators_kept net fs rows m t p q c admitted in_time known low =
    kept net fs admitted.sound admitted.fits rows admitted.sources t in_time m p c q t (omega arith) known low

-- sums of which each part is no more
sums-most : (f : ℕ → ℕ) (g : ℕ → ℕ) (n : ℕ) → ((k : ℕ) → k < n → f k ≤ g k) → sum_to n f ≤ sum_to n g
unfolding sum_to
sums-most f g zero most = omega arith
sums-most f g (suc n) most = let rest = sums-most f g n (λ k h. most k (omega arith)) in let one = most n (omega arith) in omega arith

classes-sum : (p q : ℕ) (fs : List FlowModel) (n : ℕ) → sum_to n (λ c. regulator_need p q c fs) ≡ class_plan p q fs n
unfolding sum_to class_plan
classes-sum p q fs zero = refl
classes-sum p q fs (suc n) = ap (λ x. x + regulator_need p q n fs) (classes-sum p q fs n)

plan-sum : (q : ℕ) (fs : List FlowModel) (n more : ℕ) → n ≤ more → sum_to n (λ p. class_plan p q fs 8) ≤ regulator_plan q fs more
unfolding sum_to regulator_plan
plan-sum q fs zero more most = omega arith
plan-sum q fs (suc n) zero most = absurd (omega arith)
plan-sum q fs (suc n) (suc more) most =
    elim (cases_eq n more) [
      | inl is ↦ let rest = plan-sum q fs n more (omega arith) in
          subst (λ k. sum_to n (λ p. class_plan p q fs 8) + class_plan n q fs 8 ≤ regulator_plan q fs more + class_plan k q fs 8) is (omega arith)
      | inr not ↦ let rest = plan-sum q fs (suc n) more (omega arith) in omega arith
    ]

switches-sum : (net : NetModel) (fs : List FlowModel) (switch n : ℕ) (f : ℕ → ℕ) → ((q : ℕ) → q < n → f q ≤ port_need q fs + regulator_plan q fs 64) →
    sum_to n (λ q. cond (eqb (port_at net q).switch switch) (f q) 0) ≤ switch_plan net switch fs n
unfolding sum_to switch_plan
switches-sum net fs switch zero f most = omega arith
switches-sum net fs switch (suc n) f most =
    let rest = switches-sum net fs switch n f (λ q h. most q (omega arith)) in
    elim (cases_eq (port_at net n).switch switch) [
      | inl is ↦ let one = most n (omega arith) in rw (eq-eqb (port_at net n).switch switch is) (omega arith)
      | inr not ↦ rw (ne_eqb (port_at net n).switch switch not) (omega arith)
    ]

pub switches_kept : SwitchesKept
switches_kept net fs rows m t switch admitted in_time few =
    let s : NetState = net_at net fs rows m t in
    switches-sum net fs switch (length net.ports) (λ q. queues_held (net_at net fs rows m t) q 8 + regulators_held fs (net_at net fs rows m t) q (length net.ports))
    (λ q known.
    let one = queues_kept net fs rows m t q 7 admitted in_time in
    let covers = port-covers q 7 fs (All-weaker (SoundFlow net) Classed (λ f s. s.ranges.class_low) fs admitted.sound) (All-weaker (SoundFlow net) Holding (λ f s. s.ranges.burst_holds) fs admitted.sound) in
    let each = sums-most (λ p. classes_held fs (net_at net fs rows m t) p q 8) (λ p. class_plan p q fs 8) (length net.ports)
    (λ p h.
    let all = sums-most (λ c. regulator_held fs (net_at net fs rows m t) p q c) (λ c. regulator_need p q c fs) 8 (λ c low. regulators_kept net fs rows m t p q c admitted in_time h (omega arith)) in
    omega (arith, all, classes-sum p q fs 8)) in
    let rest = plan-sum q fs (length net.ports) 64 few in
    omega (arith, one, covers, each, rest))

pub memories_kept : MemoriesKept
memories_kept net fs rows m t switch admitted in_time few listed =
    let held = switches_kept net fs rows m t switch admitted in_time few in
    let roomy = admitted.fits.roomy switch listed in
    omega (arith, held, roomy)
