-- What the lent memory holds after a change of one queue and the free cells. Assumes nothing.
use Rattle.std.proofs.Common.{◌≡◌, ℕ, ◌+◌, ◌<◌, ◌≤◌, min, cond, ltb, ◌≢◌, List, [], map, length, get_or, set, sym, ap, ◌∙◌, subst, inl, inr, arith}
use Rattle.std.specs.List.{AllByRecursion as Each}
use Rattle.std.proofs.lemmas.List.{get_or-set_same, get_or-set_other, length-set}
use Rattle.std.proofs.lemmas.Bool.{cases_eq, cases_lt, lt-ltb, le-ltb}
use Rattle.lines.specs.declared.packet.Packet.{Packet}
use Rattle.queues.specs.declared.cell.Cell.{Cell}
use Rattle.queues.specs.declared.queues_of.Queues.{Queues}
use Rattle.queues.specs.Lines.{ticks_of, sum_to}
use Rattle.queues.specs.Held.{packet_at, places, chain, last_of, occurs, queue_of, places_of, free_places, size, Holds}
use Rattle.queues.proofs.ChainLaws.{sum_change, sum_one, sum_two}

-- only the queue of class c and the free cells change, and the cells go from the one to the other
pub record Moved (q r : Queues) (cells after : List Cell) (c : ℕ) (now : List Packet) : Type 0 where
  pub size : length after ≡ length cells
  pub same : (d : ℕ) → d < 8 → d ≢ c → queue_of r d ≡ queue_of q d
  pub kept : (d : ℕ) → d < 8 → d ≢ c → places after (queue_of q d).first ((queue_of q d).count) ≡ places_of q cells d
  pub packets : (d : ℕ) → d < 8 → d ≢ c → map (packet_at after) (places_of q cells d) ≡ map (packet_at cells) (places_of q cells d)
  pub line : now ≡ chain after (queue_of r c).first (queue_of r c).count
  pub counted : (queue_of r c).ticks ≡ ticks_of now
  pub ends : last_of (queue_of r c).last (places_of r after c) ≡ (queue_of r c).last
  pub short : Each (λ p. p.length ≤ 255) now
  pub once : (x : ℕ) → occurs x (places_of q cells c) + occurs x (free_places q cells) ≡ occurs x (places_of r after c) + occurs x (free_places r after)
  pub counts : (queue_of q c).count + q.free_count ≡ (queue_of r c).count + r.free_count

module _ (q r : Queues) (cells after : List Cell) (lines : List (List Packet)) (c : ℕ) (now : List Packet) where
  pub moved_holds : c < 8 → Holds q cells lines → Moved q r cells after c now → Holds r after (set lines c now)
  moved_holds class held moved =
      record {
        eight = length-set lines c now ∙ held.eight;
        line = λ d h. elim (cases_eq d c) [ inl is ↦ at_c (λ e l. l ≡ chain after (queue_of r e).first (queue_of r e).count) d is moved.line | inr not ↦ else_line d h not ];
        counted = λ d h. elim (cases_eq d c) [ inl is ↦ at_c (λ e l. (queue_of r e).ticks ≡ ticks_of l) d is moved.counted | inr not ↦ ap (λ u. u.ticks) (moved.same d h not) ∙ held.counted d h ∙ ap ticks_of (sym (other d not)) ];
        ends = λ d h. elim (cases_eq d c) [ inl is ↦ at_c (λ e l. last_of (queue_of r e).last (places_of r after e) ≡ (queue_of r e).last) d is moved.ends | inr not ↦ else_ends d h not ];
        short = λ d h. elim (cases_eq d c) [ inl is ↦ at_c (λ e l. Each (λ p. p.length ≤ 255) l) d is moved.short | inr not ↦ subst (Each (λ p. p.length ≤ 255)) (sym (other d not)) (held.short d h) ];
        once = λ x.
            sym (sum_change 8 (λ d. occurs x (places_of q cells d)) (λ d. occurs x (places_of r after d)) c _ _ class (λ d h not. ap (occurs x) (sym (placed d h not))) (moved.once x))
            ∙ held.once x
            ∙ ap (λ n. cond (ltb x (min n 4294967295)) 1 0) (sym moved.size);
        whole = sym (sum_change 8 (λ d. (queue_of q d).count) (λ d. (queue_of r d).count) c _ _ class (λ d h not. sym (ap (λ u. u.count) (moved.same d h not))) moved.counts)
            ∙ held.whole ∙ ap (λ n. min n 4294967295) (sym moved.size);
      }
    where
      within : c < length lines
      within = omega (arith, held.eight)

      other : (d : ℕ) → d ≢ c → get_or (set lines c now) d [] ≡ get_or lines d []
      other d not = get_or-set_other lines c d now [] not

      at_c : (P : ℕ → List Packet → Type 0) (d : ℕ) → d ≡ c → P c now → P d (get_or (set lines c now) d [])
      at_c P d is p = subst (λ e. P e (get_or (set lines c now) e [])) (sym is) (subst (P c) (sym (get_or-set_same lines c now [] within)) p)

      placed : (d : ℕ) → d < 8 → d ≢ c → places_of r after d ≡ places_of q cells d
      placed d h not = ap (λ u. places after u.first u.count) (moved.same d h not) ∙ moved.kept d h not

      else_line : (d : ℕ) → d < 8 → d ≢ c → get_or (set lines c now) d [] ≡ chain after (queue_of r d).first (queue_of r d).count
      else_line d h not = other d not ∙ held.line d h ∙ sym (moved.packets d h not) ∙ ap (map (packet_at after)) (sym (placed d h not))

      else_ends : (d : ℕ) → d < 8 → d ≢ c → last_of (queue_of r d).last (places_of r after d) ≡ (queue_of r d).last
      else_ends d h not =
          let s = ap (λ u. u.last) (moved.same d h not) in
          ap (λ l. last_of l (places_of r after d)) s ∙ ap (last_of (queue_of q d).last) (placed d h not) ∙ held.ends d h ∙ sym s

-- a place of one of the queues or of the free cells is a cell, and stands nowhere else
module _ (q : Queues) (cells : List Cell) (lines : List (List Packet)) (held : Holds q cells lines) (x : ℕ) where
  abbrev met : ℕ → ℕ
  met d = occurs x (places_of q cells d)

  most : sum_to 8 met + occurs x (free_places q cells) ≤ 1
  most =
      elim (cases_lt x (size cells)) [
        | inl below ↦ let one : ◌≡◌ {A = ℕ} (cond (ltb x (size cells)) 1 0) 1 = ap (λ b. cond b 1 0) (lt-ltb x (size cells) below) in omega (arith, one, held.once x)
        | inr above ↦ let none : ◌≡◌ {A = ℕ} (cond (ltb x (size cells)) 1 0) 0 = ap (λ b. cond b 1 0) (le-ltb x (size cells) above) in omega (arith, none, held.once x)
      ]

  pub is_cell : 0 < sum_to 8 met + occurs x (free_places q cells) → x < length cells
  is_cell some =
      elim (cases_lt x (size cells)) [
        | inl below ↦ omega arith
        | inr above ↦
            let none : ◌≡◌ {A = ℕ} (cond (ltb x (size cells)) 1 0) 0 = ap (λ b. cond b 1 0) (le-ltb x (size cells) above) in
            absurd (omega (arith, none, held.once x))
      ]

  -- where it stands in the queue of class c
  pub queued_cell : (c : ℕ) → c < 8 → 0 < occurs x (places_of q cells c) → x < length cells
  queued_cell c class some = is_cell (omega (arith, sum_one 8 met c class))

  pub queued-once : (c : ℕ) → c < 8 → 0 < occurs x (places_of q cells c) → occurs x (places_of q cells c) ≤ 1
  queued-once c class some = omega (arith, sum_one 8 met c class, most)

  pub queued-free : (c : ℕ) → c < 8 → 0 < occurs x (places_of q cells c) → occurs x (free_places q cells) ≡ 0
  queued-free c class some = omega (arith, sum_one 8 met c class, most)

  pub queued_other : (c : ℕ) → c < 8 → 0 < occurs x (places_of q cells c) → (d : ℕ) → d < 8 → d ≢ c → occurs x (places_of q cells d) ≡ 0
  queued_other c class some d h not = omega (arith, sum_two 8 met c d class h not, most)

  -- where it is free
  pub free_cell : 0 < occurs x (free_places q cells) → x < length cells
  free_cell some = is_cell (omega arith)

  pub free-once : 0 < occurs x (free_places q cells) → occurs x (free_places q cells) ≤ 1
  free-once some = omega (arith, most)

  pub free_other : 0 < occurs x (free_places q cells) → (d : ℕ) → d < 8 → occurs x (places_of q cells d) ≡ 0
  free_other some d h = omega (arith, sum_one 8 met d h, most)
