-- What waits behind a regulator passed at the port before within a window, and so is no more than it needs. Assumes nothing.
use Rattle.std.proofs.Common.{◌≡◌, ℕ, zero, suc, ◌+◌, ◌-◌, ◌*◌, ◌/◌, ◌<◌, ◌≤◌, true, false, ◌&&◌, eqb, List, [], ◌∷◌, ◌++◌, map, length, get_or, sym, refl, ap, ◌∙◌, subst, inl, inr, arith, length-append, append_assoc}
use Rattle.std.specs.List.{AllByRecursion as Each}
use Rattle.std.proofs.ByRecursion.{All-weaker}
use Rattle.std.proofs.Math.Nat.{mul-le-mul_left}
use Rattle.std.proofs.lemmas.List.{length-map, get_or_append_left, get_or_past}
use Rattle.std.proofs.lemmas.Bool.{cases_Bool, cases_eq, cases_lt, eq-eqb, ne_eqb}
use Rattle.flows.specs.Flow.{FlowModel}
use Rattle.promises.specs.Promises.{den, goes, promise, windowed}
use Rattle.lines.specs.declared.packet.Packet.{Packet}
use Rattle.levels.specs.Regular.{Pass, ticks_of as pass_ticks, oldest, Regular}
use Rattle.queues.specs.Lines.{ticks_of}
use Rattle.gates.specs.Laws.{of_flow}
use Rattle.port.specs.Port.{flow_at, no_flow}
use Rattle.egress.specs.Egress.{EgressModel, gate_at}
use Rattle.egress.specs.Plays.{Setup, Moment, left, came, passed, took, Plays, begins, comes, passes, takes, leaves}
use Rattle.egress.specs.Histories.{for_gate, came_by, passed_by, came_at, passes_before}
use Rattle.egress.specs.Laws.{GoesHere, NotDue, RegulatorKept}
use Rattle.egress.proofs.TickLaws.{same_tick, taking_tick}
use Rattle.egress.proofs.HeldLaws.{both}
use Rattle.egress.proofs.PlaceLaws.{each-apart}
use Rattle.egress.proofs.SourceLaws.{regulators_in_order}
use Rattle.egress.proofs.CostLaws.{before-both, came_length, tick_behind, costs_nothing}

-- passes of a flow at the port before
module _ (flow : ℕ) (sent : ℕ → ℕ) where
  front_of : (b : ℕ) (ws : List Packet) (h : List Pass) → passes_before flow b ws sent h ≡ passes_before flow b ws sent [] ++ h
  unfolding passes_before
  front_of b [] h = refl
  front_of b (w ∷ ws) h =
      elim (cases_Bool (eqb w.flow flow)) [
        | inl is ↦ rw is
            (front_of (b + 1) ws (record { at = sent b; len = w.length } ∷ h)
            ∙ sym (append_assoc (passes_before flow (b + 1) ws sent []) (record { at = sent b; len = w.length } ∷ []) h)
            ∙ ap (λ x. x ++ h) (sym (front_of (b + 1) ws (record { at = sent b; len = w.length } ∷ []))))
        | inr not ↦ rw not (front_of (b + 1) ws h)
      ]

  ticks_before : (b : ℕ) (ws : List Packet) (h : List Pass) → pass_ticks (passes_before flow b ws sent h) ≡ ticks_of (of_flow flow ws) + pass_ticks h
  unfolding passes_before of_flow ticks_of
  ticks_before b [] h = omega arith
  ticks_before b (w ∷ ws) h =
      elim (cases_Bool (eqb w.flow flow)) [
        | inl is ↦ rw is (let rest = ticks_before (b + 1) ws (record { at = sent b; len = w.length } ∷ h) in omega arith)
        | inr not ↦ rw not (ticks_before (b + 1) ws h)
      ]

  -- all of them within a window
  abbrev InWindow : ℕ → ℕ → ℕ → Pass → Type 0
  InWindow t wire window x = (x.at + wire ≤ t) × (t ≤ x.at + (window + wire))

  in_window : (t wire window b : ℕ) (ws : List Packet) (h : List Pass) →
      ((n : ℕ) → b ≤ n → n < b + length ws → (sent n + wire ≤ t) × (t ≤ sent n + (window + wire))) →
      Each (InWindow t wire window) h → Each (InWindow t wire window) (passes_before flow b ws sent h)
  unfolding passes_before
  in_window t wire window b [] h near each = each
  in_window t wire window b (w ∷ ws) h near each =
      let more : (n : ℕ) → b + 1 ≤ n → n < b + 1 + length ws → (sent n + wire ≤ t) × (t ≤ sent n + (window + wire)) =
      λ n above below. near n (omega arith) (omega arith) in
      elim (cases_Bool (eqb w.flow flow)) [
        | inl is ↦ rw is
            (in_window t wire window (b + 1) ws (record { at = sent b; len = w.length } ∷ h) more (near b (omega arith) (omega arith), each))
        | inr not ↦ rw not (in_window t wire window (b + 1) ws h more each)
      ]

  oldest_in : (t wire window : ℕ) (x : Pass) (xs : List Pass) → InWindow t wire window x → Each (InWindow t wire window) xs → InWindow t wire window (oldest x xs)
  oldest_in t wire window x [] here each = here
  oldest_in t wire window x (y ∷ ys) here each = oldest_in t wire window y ys each.0 each.1

  -- so their ticks are those of one window
  row_ticks : (burst rate t wire window : ℕ) (xs h : List Pass) → Regular burst rate (xs ++ h) → Each (InWindow t wire window) xs →
      den * pass_ticks xs ≤ den * burst + rate * window
  row_ticks burst rate t wire window [] h regular each = omega arith
  row_ticks burst rate t wire window (x ∷ xs) h regular each =
      let row = regular [] xs h x refl in
      let first = oldest_in t wire window x xs each.0 each.1 in
      let near : x.at - (oldest x xs).at ≤ window = omega (arith, first.0, first.1, each.0.0, each.0.1) in
      let most : rate * (x.at - (oldest x xs).at) ≤ rate * window = mul-le-mul_left rate near in
      omega arith

  window_ticks : (burst rate t wire window b : ℕ) (ws : List Packet) (h : List Pass) → Regular burst rate (passes_before flow b ws sent h) →
      ((n : ℕ) → b ≤ n → n < b + length ws → (sent n + wire ≤ t) × (t ≤ sent n + (window + wire))) →
      den * ticks_of (of_flow flow ws) ≤ den * burst + rate * window
  window_ticks burst rate t wire window b ws h regular near =
      let all = row_ticks burst rate t wire window (passes_before flow b ws sent []) h (subst (Regular burst rate) (front_of b ws h) regular)
      (in_window t wire window b ws [] near tt) in
      let ticks = ticks_before b ws [] in
      omega arith

-- a number of each flow, added up
sum_from : (ℕ → ℕ) → ℕ → ℕ → ℕ
sum_from f b zero = 0
sum_from f b (suc n) = f b + sum_from f (b + 1) n

abbrev of_each : List Packet → ℕ → ℕ
of_each ws j = ticks_of (of_flow j ws)

sum-none : (b n : ℕ) → sum_from (of_each []) b n ≡ 0
unfolding sum_from of_flow ticks_of
sum-none b zero = refl
sum-none b (suc n) = let rest = sum-none (b + 1) n in omega arith

sum-below : (b n : ℕ) (w : Packet) (ws : List Packet) → w.flow < b → sum_from (of_each (w ∷ ws)) b n ≡ sum_from (of_each ws) b n
unfolding sum_from of_flow
sum-below b zero w ws low = refl
sum-below b (suc n) w ws low =
    let test = ne_eqb w.flow b (λ e. absurd (omega arith)) in
    rw test (let rest = sum-below (b + 1) n w ws (omega arith) in omega arith)

sum-one : (b n : ℕ) (w : Packet) (ws : List Packet) → b ≤ w.flow → w.flow < b + n → sum_from (of_each (w ∷ ws)) b n ≡ w.length + sum_from (of_each ws) b n
unfolding sum_from of_flow ticks_of
sum-one b zero w ws low high = absurd (omega arith)
sum-one b (suc n) w ws low high =
    elim (cases_eq w.flow b) [
      | inl is ↦
          let test = eq-eqb w.flow b is in
          let rest = sum-below (b + 1) n w ws (omega arith) in
          rw test (omega arith)
      | inr not ↦
          let test = ne_eqb w.flow b not in
          let above : b + 1 ≤ w.flow = omega arith in
          let rest = sum-one (b + 1) n w ws above (omega arith) in
          rw test (omega arith)
    ]

sum-all : (n : ℕ) (ws : List Packet) → Each (λ w. w.flow < n) ws → ticks_of ws ≡ sum_from (of_each ws) 0 n
unfolding ticks_of
sum-all n [] each = sym (sum-none 0 n)
sum-all n (w ∷ ws) each = let rest = sum-all n ws each.1 in let one = sum-one 0 n w ws (omega arith) (omega (arith, each.0)) in omega arith

-- and what each may send within the window
windows : (p q c window b : ℕ) (f : ℕ → ℕ) (fs : List FlowModel) →
    ((j : ℕ) → j < length fs → den * f (b + j) ≤ den * (flow_at fs j).burst + (flow_at fs j).rate * window) →
    ((j : ℕ) → j < length fs → (eqb (flow_at fs j).class c && goes p q (flow_at fs j).road) ≡ false → f (b + j) ≡ 0) →
    den * sum_from f b (length fs) ≤ windowed p q c window fs
unfolding sum_from windowed
windows p q c window b f [] most none = omega arith
windows p q c window b f (g ∷ gs) most none =
    let next : (j : ℕ) → b + suc j ≡ b + 1 + j = λ j. omega arith in
    let zeroth : b + 0 ≡ b = omega arith in
    let rest = windows p q c window (b + 1) f gs
    (λ j h. subst (λ n. den * f n ≤ den * (flow_at gs j).burst + (flow_at gs j).rate * window) (next j) (most (suc j) (omega arith)))
    (λ j h is. subst (λ n. f n ≡ 0) (next j) (none (suc j) (omega arith) is)) in
    elim (cases_Bool (eqb g.class c && goes p q g.road)) [
      | inl is ↦
          let here : den * f b ≤ den * g.burst + g.rate * window = subst (λ n. den * f n ≤ den * g.burst + g.rate * window) zeroth (most 0 (omega arith)) in
          rw is (omega arith)
      | inr not ↦
          let here : f b ≡ 0 = subst (λ n. f n ≡ 0) zeroth (none 0 (omega arith) not) in
          rw not (omega arith)
    ]

from_zero : (j : ℕ) → j ≡ 0 + j
from_zero j = omega arith

-- rounded up once
quotient : (x w : ℕ) → den * x ≤ w → x ≤ (w + (den - 1)) / den
quotient x w most = omega arith

not_late : (m : Moment) (t due : ℕ) → NotDue m t due → t ≤ due
not_late left t due not = not
not_late came t due not = not
not_late passed t due not = omega arith
not_late took t due not = omega arith

-- what has come did so by now
came_past : (a : Setup) (k : ℕ) (m : Moment) (e : EgressModel) (plays : Plays a m e) (n : ℕ) → n < length (came_at a k plays) → get_or (came_at a k plays) n 0 ≤ e.machine.tick
unfolding came_at
came_past a k _ _ begins n within = absurd (omega arith)
came_past a k _ _ (comes {e = e} cs plays some) n within =
    elim (cases_lt n (length (came_at a k plays))) [
      | inl old ↦
          let first = get_or_append_left (came_at a k plays) (map (λ (_ : Packet). e.machine.tick) (for_gate k cs)) 0 n old in
          omega (arith, first, came_past a k left e plays n old)
      | inr young ↦
          let whole : n < length (came_at a k plays) + length (for_gate k cs) =
          omega (arith, length-append (came_at a k plays) (map (λ (_ : Packet). e.machine.tick) (for_gate k cs)), length-map (for_gate k cs) (λ (_ : Packet). e.machine.tick)) in
          let tick = tick_behind (came_at a k plays) e.machine.tick (for_gate k cs) n young whole in
          omega arith
    ]
came_past a k _ _ (passes {e = e} plays) n within =
    omega (arith, came_past a k came e plays n within, same_tick a.room a.classes e.gates e.machine)
came_past a k _ _ (takes {e = e} plays clock) n within =
    omega (arith, came_past a k passed e plays n within, taking_tick e.machine e.machine.sending)
came_past a k _ _ (leaves {e = e} plays) n within =
    omega (arith, came_past a k took e plays n within)

-- flows that go there
pub road_listed : (fs : List FlowModel) (p q k : ℕ) → goes p q (flow_at fs k).road ≡ true → k < length fs
unfolding goes
road_listed fs p q k on =
    elim (cases_lt k (length fs)) [
      | inl within ↦ within
      | inr past ↦
          let none : flow_at fs k ≡ no_flow = get_or_past fs k no_flow past in
          let never : false ≡ true = sym (ap (λ (f : FlowModel). goes p q f.road) none) ∙ on in
          cc
    ]

none_here : (a : Setup) (p c j : ℕ) (ws : List Packet) → Each (GoesHere a p c) ws → (eqb (flow_at a.flows j).class c && goes p a.port (flow_at a.flows j).road) ≡ false →
    ticks_of (of_flow j ws) ≡ 0
unfolding of_flow ticks_of
none_here a p c j [] each not = refl
none_here a p c j (w ∷ ws) each not =
    elim (cases_eq w.flow j) [
      | inl is ↦
          let class : eqb (flow_at a.flows j).class c ≡ true = eq-eqb (flow_at a.flows j).class c (ap (λ k. (flow_at a.flows k).class) (sym is) ∙ each.0.class) in
          let road : goes p a.port (flow_at a.flows j).road ≡ true = ap (λ k. goes p a.port (flow_at a.flows k).road) (sym is) ∙ each.0.road in
          let never : true ≡ false = sym (both (eqb (flow_at a.flows j).class c) (goes p a.port (flow_at a.flows j).road) class road) ∙ not in
          cc
      | inr other ↦ rw (ne_eqb w.flow j other) (none_here a p c j ws each.1 not)
    ]

pub regulator-kept : RegulatorKept
regulator-kept a m e plays to k p c wire sent enough within directed come before late =
    let gone : List Packet = passed_by a k plays in
    let order = regulators_in_order a m e plays k enough within in
    let yet = (costs_nothing a m e plays to k (promise p c a.flows + wire) sent enough within directed before).1 in
    let long = came_length a k m e plays in
    let many : length (came_by a k plays) ≡ length (passed_by a k plays) + length (gate_at e.gates k).waits =
    ap length (sym order) ∙ length-append (passed_by a k plays) (gate_at e.gates k).waits in
    let near : (n : ℕ) → length (passed_by a k plays) ≤ n → n < length (passed_by a k plays) + length (gate_at e.gates k).waits →
    (sent n + wire ≤ e.machine.tick) × (e.machine.tick ≤ sent n + (promise p c a.flows + wire)) =
    λ n above below.
    let there : n < length (came_at a k plays) = omega (arith, many) in
    let by = came_past a k m e plays n there in
    let from = late n there in
    (omega (arith, by, from), not_late m e.machine.tick (sent n + (promise p c a.flows + wire)) (yet n above (omega (arith, many)))) in
    let each = (each-apart (GoesHere a p c) (passed_by a k plays) (gate_at e.gates k).waits (subst (Each (GoesHere a p c)) (sym order) come)).1 in
    let most : (j : ℕ) → j < length a.flows → den * of_each (gate_at e.gates k).waits (0 + j) ≤ den * (flow_at a.flows j).burst + (flow_at a.flows j).rate * promise p c a.flows =
    λ j h.
    let rows : passes_before j 0 (came_by a k plays) sent [] ≡ passes_before j (length (passed_by a k plays)) (gate_at e.gates k).waits sent (passes_before j 0 (passed_by a k plays) sent []) =
    ap (λ x. passes_before j 0 x sent []) (sym order) ∙ before-both j sent 0 (length (passed_by a k plays)) (passed_by a k plays) (gate_at e.gates k).waits [] (omega arith) in
    subst (λ n. den * of_each (gate_at e.gates k).waits n ≤ den * (flow_at a.flows j).burst + (flow_at a.flows j).rate * promise p c a.flows) (from_zero j)
    (window_ticks j sent (flow_at a.flows j).burst (flow_at a.flows j).rate e.machine.tick wire (promise p c a.flows) (length (passed_by a k plays)) (gate_at e.gates k).waits
    (passes_before j 0 (passed_by a k plays) sent []) (subst (Regular (flow_at a.flows j).burst (flow_at a.flows j).rate) rows (before.regular j)) near) in
    let none : (j : ℕ) → j < length a.flows → (eqb (flow_at a.flows j).class c && goes p a.port (flow_at a.flows j).road) ≡ false → of_each (gate_at e.gates k).waits (0 + j) ≡ 0 =
    λ j h not. subst (λ n. of_each (gate_at e.gates k).waits n ≡ 0) (from_zero j) (none_here a p c j (gate_at e.gates k).waits each not) in
    let all = windows p a.port c (promise p c a.flows) 0 (of_each (gate_at e.gates k).waits) a.flows most none in
    let sum = sum-all (length a.flows) (gate_at e.gates k).waits (All-weaker (GoesHere a p c) (λ w. w.flow < length a.flows) (λ w here. road_listed a.flows p a.port w.flow here.road) (gate_at e.gates k).waits each) in
    quotient (ticks_of (gate_at e.gates k).waits) (windowed p a.port c (promise p c a.flows) a.flows) (omega (arith, all, sum))
