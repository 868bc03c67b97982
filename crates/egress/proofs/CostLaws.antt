-- A regulator behind another port delays nobody beyond what it took to come. Assumes nothing.
use Rattle.std.proofs.Common.{◌≡◌, ℕ, zero, suc, ◌+◌, ◌-◌, ◌*◌, ◌<◌, ◌≤◌, Bool, true, false, cond, eqb, List, [], ◌∷◌, ◌++◌, map, length, get_or, sym, refl, ap, ◌∙◌, subst, inl, inr, arith, length-append}
use Rattle.std.specs.List.{AllByRecursion as Each}
use Rattle.std.proofs.ByRecursion.{All-weaker}
use Rattle.std.proofs.Math.Nat.{mul-le-mul_left}
use Rattle.std.proofs.lemmas.List.{length-map, get_or_append_left}
use Rattle.std.proofs.lemmas.Bool.{cases_Bool, cases_lt, eq-eqb}
use Rattle.lines.specs.declared.packet.Packet.{Packet}
use Rattle.lines.specs.Lines.{head_of}
use Rattle.levels.specs.Regular.{Pass, ticks_of, oldest, RowKept, Regular}
use Rattle.levels.proofs.RowLaws.{regular_older}
use Rattle.gates.specs.Laws.{of_flow, passing}
use Rattle.port.specs.Port.{flow_at}
use Rattle.egress.specs.Egress.{EgressModel, gate_at, accept_all, all_passers, come_phase, pass_phase}
use Rattle.egress.specs.Plays.{Setup, Enough, Moment, left, came, passed, took, Plays, begins, comes, passes, takes, leaves}
use Rattle.egress.specs.Histories.{for_gate, in_turn, passed_in, came_by, passed_by, came_at, passed_at, Directed, passes_before}
use Rattle.egress.specs.Laws.{NotDue, CostsNothing}
use Rattle.egress.proofs.GoesLaws.{goes_on}
use Rattle.egress.proofs.TickLaws.{taking_tick}
use Rattle.egress.proofs.RoomLaws.{listed}
use Rattle.egress.proofs.HistoryLaws.{always_regular, first-fits, no_longer}
use Rattle.egress.proofs.PlaceLaws.{Placed, accept-placed, open-placed, Elsewhere, row_is}
use Rattle.egress.proofs.SourceLaws.{none-at, as_many, regulators_in_order}

-- the same packets, each later by so many ticks at most
abbrev Follows : ℕ → List Pass → List Pass → Type 0
Follows bound [] [] = Unit {0}
Follows bound [] (y ∷ ys) = ⊥
Follows bound (x ∷ xs) [] = ⊥
Follows bound (x ∷ xs) (y ∷ ys) = (y.len ≡ x.len) × (y.at ≤ x.at + bound) × Follows bound xs ys

record Cut (bound : ℕ) (xs ys : List Pass) : Type 0 where
  front : List Pass
  back : List Pass
  is : front ++ back ≡ xs
  follows : Follows bound front ys

cut : (bound : ℕ) (xs ys older : List Pass) → Follows bound xs (ys ++ older) → Cut bound xs ys
cut bound xs [] older follows = record { front = []; back = xs; is = refl; follows = tt }
cut bound [] (y ∷ ys) older follows = absurd follows
cut bound (x ∷ xs) (y ∷ ys) older follows =
    let rest = cut bound xs ys older follows.2 in
    record { front = x ∷ rest.front; back = rest.back; is = ap (λ l. x ∷ l) rest.is; follows = (follows.0, follows.1, rest.follows) }

same-ticks : (bound : ℕ) (xs ys : List Pass) → Follows bound xs ys → ticks_of ys ≡ ticks_of xs
same-ticks bound [] [] follows = refl
same-ticks bound [] (y ∷ ys) follows = absurd follows
same-ticks bound (x ∷ xs) [] follows = absurd follows
same-ticks bound (x ∷ xs) (y ∷ ys) follows = omega (arith, follows.0, same-ticks bound xs ys follows.2)

oldest-follows : (bound : ℕ) (x y : Pass) (xs ys : List Pass) → y.at ≤ x.at + bound → Follows bound xs ys → (oldest y ys).at ≤ (oldest x xs).at + bound
oldest-follows bound x y [] [] late follows = late
oldest-follows bound x y [] (v ∷ ys) late follows = absurd follows
oldest-follows bound x y (u ∷ xs) [] late follows = absurd follows
oldest-follows bound x y (u ∷ xs) (v ∷ ys) late follows = oldest-follows bound u v xs ys follows.1 follows.2

-- a row that is kept there is kept here, where its newest is later by as much
row-later : (burst rate bound t s len : ℕ) (xs ys : List Pass) → s + bound ≤ t → Follows bound xs ys →
    RowKept burst rate (record { at = s; len = len }) xs → RowKept burst rate (record { at = t; len = len }) ys
row-later burst rate bound t s len [] [] late follows kept =
    let there : s - s ≡ 0 = omega arith in
    let here : t - t ≡ 0 = omega arith in
    let same : rate * (s - s) ≡ rate * (t - t) = ap (λ n. rate * n) (there ∙ sym here) in
    omega arith
row-later burst rate bound t s len [] (y ∷ ys) late follows kept = absurd follows
row-later burst rate bound t s len (x ∷ xs) [] late follows kept = absurd follows
row-later burst rate bound t s len (x ∷ xs) (y ∷ ys) late follows kept =
    let ticks = same-ticks bound (x ∷ xs) (y ∷ ys) follows in
    let first = oldest-follows bound x y xs ys follows.1 follows.2 in
    let longer : s - (oldest x xs).at ≤ t - (oldest y ys).at = omega arith in
    let more : rate * (s - (oldest x xs).at) ≤ rate * (t - (oldest y ys).at) = mul-le-mul_left rate longer in
    omega arith

later-regular : (burst rate bound t s len : ℕ) (xs ys : List Pass) → s + bound ≤ t → Follows bound xs ys →
    Regular burst rate (record { at = s; len = len } ∷ xs) → Regular burst rate ys → Regular burst rate (record { at = t; len = len } ∷ ys)
later-regular burst rate bound t s len xs ys late follows there here [] rest older newest is =
    let first : newest ≡ record { at = t; len = len } = cc in
    let others : rest ++ older ≡ ys = cc in
    let part = cut bound xs rest older (subst (λ l. Follows bound xs l) (sym others) follows) in
    let kept = there [] part.front part.back (record { at = s; len = len }) (ap (λ l. record { at = s; len = len } ∷ l) part.is) in
    subst (λ p. RowKept burst rate p rest) (sym first) (row-later burst rate bound t s len part.front rest late part.follows kept)
later-regular burst rate bound t s len xs ys late follows there here (n ∷ newer) rest older newest is =
    here newer rest older newest (cc)

-- passes at the port before, of packets in two rows
module _ (flow : ℕ) (sent : ℕ → ℕ) where
  pub before-both : (b c : ℕ) (xs ys : List Packet) (h : List Pass) → b + length xs ≡ c →
      passes_before flow b (xs ++ ys) sent h ≡ passes_before flow c ys sent (passes_before flow b xs sent h)
  unfolding passes_before
  before-both b c [] ys h is = let same : b ≡ c = omega arith in ap (λ n. passes_before flow n ys sent h) same
  before-both b c (x ∷ xs) ys h is = before-both (b + 1) c xs ys (cond (eqb x.flow flow) (record { at = sent b; len = x.length } ∷ h) h) (omega arith)

  before-older : (burst rate b : ℕ) (ws : List Packet) (h : List Pass) → Regular burst rate (passes_before flow b ws sent h) → Regular burst rate h
  unfolding passes_before
  before-older burst rate b [] h regular = regular
  before-older burst rate b (w ∷ ws) h regular = by (eqb w.flow flow) (before-older burst rate (b + 1) ws (cond (eqb w.flow flow) (record { at = sent b; len = w.length } ∷ h) h) regular)
    where
      by : (x : Bool) → Regular burst rate (cond x (record { at = sent b; len = w.length } ∷ h) h) → Regular burst rate h
      by true more = regular_older burst rate (record { at = sent b; len = w.length }) h more
      by false same = same

  follows-row : (bound t b : ℕ) (ws : List Packet) (xs ys : List Pass) → Follows bound xs ys → ((n : ℕ) → b ≤ n → n < b + length ws → t ≤ sent n + bound) →
      Follows bound (passes_before flow b ws sent xs) (passing t (of_flow flow ws) ys)
  unfolding passes_before passing of_flow
  follows-row bound t b [] xs ys follows due = follows
  follows-row bound t b (w ∷ ws) xs ys follows due =
      let more : (n : ℕ) → b + 1 ≤ n → n < b + 1 + length ws → t ≤ sent n + bound = λ n above below. due n (omega arith) (omega arith) in
      elim (cases_Bool (eqb w.flow flow)) [
        | inl is ↦ rw is
            (follows-row bound t (b + 1) ws (record { at = sent b; len = w.length } ∷ xs) (record { at = t; len = w.length } ∷ ys)
            (refl, due b (omega arith) (omega arith), follows) more)
        | inr not ↦ rw not (follows-row bound t (b + 1) ws xs ys follows more)
      ]

-- ticks stand beside packets
pub came_length : (a : Setup) (k : ℕ) (m : Moment) (e : EgressModel) (plays : Plays a m e) → length (came_at a k plays) ≡ length (came_by a k plays)
unfolding came_at came_by
came_length a k _ _ begins = refl
came_length a k _ _ (comes {e = e} cs plays some) =
    omega (
      arith,
      came_length a k left e plays,
      length-append (came_at a k plays) (map (λ (_ : Packet). e.machine.tick) (for_gate k cs)),
      length-append (came_by a k plays) (for_gate k cs),
      length-map (for_gate k cs) (λ (_ : Packet). e.machine.tick),
    )
came_length a k _ _ (passes {e = e} plays) = came_length a k came e plays
came_length a k _ _ (takes {e = e} plays clock) = came_length a k passed e plays
came_length a k _ _ (leaves {e = e} plays) = came_length a k took e plays

pub passed_length : (a : Setup) (k : ℕ) (m : Moment) (e : EgressModel) (plays : Plays a m e) → length (passed_at a k plays) ≡ length (passed_by a k plays)
unfolding passed_at passed_by
passed_length a k _ _ begins = refl
passed_length a k _ _ (comes {e = e} cs plays some) = passed_length a k left e plays
passed_length a k _ _ (passes {e = e} plays) =
    let row = get_or (all_passers a.room a.classes e.gates e.machine) k [] in
    omega (
      arith,
      passed_length a k came e plays,
      length-append (passed_at a k plays) (map (λ (_ : Packet). e.machine.tick) row),
      length-append (passed_by a k plays) row,
      length-map row (λ (_ : Packet). e.machine.tick),
    )
passed_length a k _ _ (takes {e = e} plays clock) = passed_length a k passed e plays
passed_length a k _ _ (leaves {e = e} plays) = passed_length a k took e plays

-- a tick that stands behind others
pub tick_behind : (ts : List ℕ) (t : ℕ) (ws : List Packet) (n : ℕ) → length ts ≤ n → n < length ts + length ws → get_or (ts ++ map (λ (_ : Packet). t) ws) n 0 ≡ t
tick_behind [] t [] n above below = absurd (omega arith)
tick_behind [] t (w ∷ ws) zero above below = refl
tick_behind [] t (w ∷ ws) (suc n) above below = tick_behind [] t ws n (omega arith) (omega arith)
tick_behind (u ∷ ts) t ws zero above below = absurd (omega arith)
tick_behind (u ∷ ts) t ws (suc n) above below = tick_behind ts t ws n (omega arith) (omega arith)

-- all of a run, at a moment
module _ (a : Setup) (to : ℕ → ℕ) (k bound : ℕ) (sent : ℕ → ℕ) (enough : Enough a) (within : k < length a.edges)
    (order : (i j : ℕ) → i ≤ j → sent i ≤ sent j) where
  abbrev At : ℕ → Packet → Type 0
  At j w = to w.flow ≡ j

  abbrev Even : ℕ → List Pass → Type 0
  Even flow h = Regular (flow_at a.flows flow).burst (flow_at a.flows flow).rate h

  record Kept (m : Moment) (e : EgressModel) (plays : Plays a m e) : Type 0 where
    placed : Placed At e.gates
    follows : (flow : ℕ) → to flow ≡ k → Follows bound (passes_before flow 0 (passed_by a k plays) sent []) (passed_in a flow plays)
    done : (n : ℕ) → n < length (passed_at a k plays) → get_or (passed_at a k plays) n 0 ≤ sent n + bound
    waiting : (n : ℕ) → length (passed_by a k plays) ≤ n → n < length (came_by a k plays) → NotDue m e.machine.tick (sent n + bound)

  -- the first that waits after all were opened is not due yet
  first_waits : (e : EgressModel) (plays : Plays a came e) (ws : List Packet) → (gate_at (pass_phase a.room a.classes e).gates k).waits ≡ ws →
      Each (At k) ws → ((flow : ℕ) → to flow ≡ k → Follows bound (passes_before flow 0 (passed_by a k (passes plays)) sent []) (passed_in a flow (passes plays))) →
      ((flow : ℕ) → Even flow (passes_before flow 0 (came_by a k plays) sent [])) →
      (n : ℕ) → length (passed_by a k (passes plays)) ≤ n → n < length (came_by a k plays) → (pass_phase a.room a.classes e).machine.tick < sent n + bound
  unfolding came_by passes_before
  first_waits e plays [] is placed follows even n above below =
      let all = regulators_in_order a passed (pass_phase a.room a.classes e) (passes plays) k enough within in
      absurd (omega (arith, ap length all, ap length is, length-append (passed_by a k (passes plays)) (gate_at (pass_phase a.room a.classes e).gates k).waits))
  first_waits e plays (w ∷ ws) is placed follows even n above below =
      let gone : List Packet = passed_by a k (passes plays) in
      let t : ℕ = (pass_phase a.room a.classes e).machine.tick in
      let all : gone ++ (w ∷ ws) ≡ came_by a k plays =
      ap (λ x. passed_by a k (passes plays) ++ x) (sym is) ∙ regulators_in_order a passed (pass_phase a.room a.classes e) (passes plays) k enough within in
      let past : List Pass = passes_before w.flow 0 gone sent [] in
      let same : eqb w.flow w.flow ≡ true = eq-eqb w.flow w.flow refl in
      let rows : passes_before w.flow 0 (came_by a k plays) sent [] ≡ passes_before w.flow (length gone + 1) ws sent (record { at = sent (length gone); len = w.length } ∷ past) =
      ap (λ x. passes_before w.flow 0 x sent []) (sym all)
      ∙ before-both w.flow sent 0 (length gone) gone (w ∷ ws) [] (omega arith)
      ∙ ap (λ b. passes_before w.flow (length gone + 1) ws sent (cond b (record { at = sent (length gone); len = w.length } ∷ past) past)) same in
      let there : Even w.flow (record { at = sent (length gone); len = w.length } ∷ past) =
      before-older w.flow sent (flow_at a.flows w.flow).burst (flow_at a.flows w.flow).rate (length gone + 1) ws
      (record { at = sent (length gone); len = w.length } ∷ past) (subst (Even w.flow) rows (even w.flow)) in
      let goes = goes_on a passed (pass_phase a.room a.classes e) enough (passes plays) in
      let fits = first-fits a (pass_phase a.room a.classes e).gates k w goes.belong (ap head_of is) in
      let here = always_regular a passed (pass_phase a.room a.classes e) (passes plays) w.flow (listed a.port a.flows w.flow fits.crosses) in
      let soon : (pass_phase a.room a.classes e).machine.tick < sent (length gone) + bound =
      elim (cases_lt (pass_phase a.room a.classes e).machine.tick (sent (length gone) + bound)) [
        | inl soon ↦ soon
        | inr late ↦
            absurd
            (no_longer a (pass_phase a.room a.classes e) (passes plays) k w enough (ap head_of is)
            (later-regular (flow_at a.flows w.flow).burst (flow_at a.flows w.flow).rate bound (pass_phase a.room a.classes e).machine.tick (sent (length gone)) w.length
            past (passed_in a w.flow (passes plays)) late (follows w.flow placed.0) there here.regular))
      ] in
      let later = order (length gone) n above in
      omega arith

  kept : (m : Moment) (e : EgressModel) (plays : Plays a m e) → Directed a to plays → ((flow : ℕ) → Even flow (passes_before flow 0 (came_by a k plays) sent [])) →
      ((n : ℕ) → n < length (came_at a k plays) → get_or (came_at a k plays) n 0 ≤ sent n + bound) → Kept m e plays
  unfolding Directed came_by came_at passed_by passed_at passed_in passes_before
  kept _ _ begins directed even come =
      record {
        placed = λ j. subst (Each (At j)) (sym (none-at a.edges j)) tt;
        follows = λ flow its. tt;
        done = λ n h. absurd (omega arith);
        waiting = λ n above h. absurd (omega arith);
      }
  kept _ _ (comes {e = e} cs plays some) directed even come =
      let new : List Packet = for_gate k cs in
      let t : ℕ = e.machine.tick in
      let many = as_many a left e enough plays in
      let same : length (accept_all cs e.gates) ≡ length e.gates = as_many a came (come_phase cs e) enough (comes cs plays some) ∙ sym many in
      let before = kept left e plays directed.1
      (λ flow.
      before-older flow sent (flow_at a.flows flow).burst (flow_at a.flows flow).rate (length (came_by a k plays)) new (passes_before flow 0 (came_by a k plays) sent [])
      (subst (Even flow) (before-both flow sent 0 (length (came_by a k plays)) (came_by a k plays) new [] (omega arith)) (even flow)))
      (λ n h.
      let first = get_or_append_left (came_at a k plays) (map (λ (_ : Packet). t) new) 0 n h in
      let less : n < length (came_at a k plays ++ map (λ (_ : Packet). t) new) = omega (arith, length-append (came_at a k plays) (map (λ (_ : Packet). t) new)) in
      omega (arith, first, come n less)) in
      record {
        placed = accept-placed At cs e.gates same before.placed directed.0;
        follows = before.follows;
        done = before.done;
        waiting = λ n above h.
            elim (cases_lt n (length (came_by a k plays))) [
              | inl old ↦ before.waiting n above old
              | inr young ↦
                  let long = came_length a k left e plays in
                  let whole : n < length (came_at a k plays) + length new = omega (arith, length-append (came_by a k plays) new) in
                  let tick = tick_behind (came_at a k plays) t new n (omega arith) whole in
                  let less : n < length (came_at a k plays ++ map (λ (_ : Packet). t) new) =
                  omega (arith, length-append (came_at a k plays) (map (λ (_ : Packet). t) new), length-map new (λ (_ : Packet). t)) in
                  omega (arith, tick, come n less)
            ];
      }
  kept _ _ (passes {e = e} plays) directed even come =
      let before = kept came e plays directed even come in
      let rows : List (List Packet) = all_passers a.room a.classes e.gates e.machine in
      let row : List Packet = get_or rows k [] in
      let t : ℕ = e.machine.tick in
      let open-at = open-placed At a.room a.classes e.gates e.machine before.placed in
      let all = regulators_in_order a passed (pass_phase a.room a.classes e) (passes plays) k enough within in
      let most : length (passed_by a k plays) + length row ≤ length (came_by a k plays) =
      omega (arith, ap length all, length-append (passed_by a k plays ++ row) (gate_at (pass_phase a.room a.classes e).gates k).waits, length-append (passed_by a k plays) row) in
      let due : (n : ℕ) → length (passed_by a k plays) ≤ n → n < length (passed_by a k plays) + length row → t ≤ sent n + bound =
      λ n above below. before.waiting n above (omega arith) in
      let follows : (flow : ℕ) → to flow ≡ k → Follows bound (passes_before flow 0 (passed_by a k plays ++ row) sent []) (passing t (of_flow flow (in_turn rows)) (passed_in a flow plays)) =
      λ flow its.
      let alone : of_flow flow (in_turn rows) ≡ of_flow flow row =
      row_is flow k rows
      (λ i. All-weaker (At i) (Elsewhere flow k i) (λ w at e. sym at ∙ ap to e ∙ its) (get_or rows i []) (open-at i).0) in
      subst (λ x. Follows bound x (passing t (of_flow flow (in_turn rows)) (passed_in a flow plays)))
      (sym (before-both flow sent 0 (length (passed_by a k plays)) (passed_by a k plays) row [] (omega arith)))
      (subst (λ x. Follows bound (passes_before flow (length (passed_by a k plays)) row sent (passes_before flow 0 (passed_by a k plays) sent [])) (passing t x (passed_in a flow plays)))
      (sym alone)
      (follows-row flow sent bound t (length (passed_by a k plays)) row (passes_before flow 0 (passed_by a k plays) sent []) (passed_in a flow plays) (before.follows flow its) due)) in
      record {
        placed = λ j. (open-at j).1;
        follows = follows;
        done = λ n h.
            elim (cases_lt n (length (passed_at a k plays))) [
              | inl old ↦
                  let first = get_or_append_left (passed_at a k plays) (map (λ (_ : Packet). t) row) 0 n old in
                  omega (arith, first, before.done n old)
              | inr young ↦
                  let long = passed_length a k came e plays in
                  let whole : n < length (passed_at a k plays) + length row =
                  omega (arith, length-append (passed_at a k plays) (map (λ (_ : Packet). t) row), length-map row (λ (_ : Packet). t)) in
                  let tick = tick_behind (passed_at a k plays) t row n young whole in
                  omega (arith, tick, due n (omega arith) (omega arith))
            ];
        waiting = first_waits e plays (gate_at (pass_phase a.room a.classes e).gates k).waits refl (open-at k).1 follows even;
      }
  kept _ _ (takes {e = e} plays clock) directed even come =
      let before = kept passed e plays directed even come in
      record {
        placed = before.placed;
        follows = before.follows;
        done = before.done;
        waiting = λ n above h. subst (λ t. t < sent n + bound) (sym (taking_tick e.machine e.machine.sending)) (before.waiting n above h);
      }
  kept _ _ (leaves {e = e} plays) directed even come =
      let before = kept took e plays directed even come in
      record {
        placed = before.placed;
        follows = before.follows;
        done = before.done;
        waiting = λ n above h. let more = before.waiting n above h in omega arith;
      }

pub costs_nothing : CostsNothing
costs_nothing a m e plays to k bound sent enough within directed before =
    let it = kept a to k bound sent enough within before.order m e plays directed before.regular before.within in
    (it.done, it.waiting)
