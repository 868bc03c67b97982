-- The first packet of a class is taken, and its cell becomes free. Assumes nothing.
use Rattle.std.proofs.Common.{◌≡◌, ℕ, zero, suc, ◌+◌, ◌-◌, ◌<◌, ◌≤◌, List, [], ◌∷◌, map, length, get_or, set, None, sym, refl, ap, ◌∙◌, subst, add-zero, arith}
use Rattle.std.specs.List.{AllByRecursion as Each}
use Rattle.std.proofs.lemmas.List.{get_or-set_same, get_or-set_other, length-set}
use Rattle.lines.specs.declared.packet.Packet.{Packet}
use Rattle.queues.specs.declared.cell.Cell.{Cell}
use Rattle.queues.specs.declared.queues_of.Queue.{Queue}
use Rattle.queues.specs.declared.queues_of.Queues.{Queues}
use Rattle.queues.specs.declared.queues_of.Taken.TheVariants.{Packet as taken, Nothing}
use Rattle.queues.specs.Lines.{ticks_of, taken_from, left_by}
use Rattle.queues.specs.Held.{no_cell, packet_at, next_at, places, chain, last_of, occurs, no_queue, queue_of, places_of, free_places, IsLowest, Lowest, Holds}
use Rattle.queues.proofs.ChainLaws.{occurs_here, occurs-more, places_other, packets_next, places-first, places-more, last_rest, sum_one}
use Rattle.queues.proofs.HoldLaws.{Moved, moved_holds, queued_cell, queued-once, queued-free, queued_other}

-- what is taken from lines of which those below c are empty
pub taken_at : (lines : List (List Packet)) (b c : ℕ) (packet : Packet) (packets : List Packet) → c < length lines →
    ((j : ℕ) → j < c → get_or lines j [] ≡ []) → get_or lines c [] ≡ packet ∷ packets →
    (taken_from b lines ≡ taken (b + c) packet) × (left_by lines ≡ set lines c packets)
unfolding taken_from left_by
taken_at [] b c packet packets within empty here = absurd (omega arith)
taken_at (line ∷ lines) b zero packet packets within empty here =
    (ap (λ l. taken_from b (l ∷ lines)) here ∙ ap (λ n. taken n packet) (sym (add-zero b)), ap (λ l. left_by (l ∷ lines)) here)
taken_at (line ∷ lines) b (suc c) packet packets within empty here =
    let none : line ≡ [] = empty 0 (omega arith) in
    let more = taken_at lines (b + 1) c packet packets (omega arith) (λ j h. empty (suc j) (omega arith)) here in
    let place : b + 1 + c ≡ b + suc c = omega arith in (
      ap (λ l. taken_from b (l ∷ lines)) none ∙ more.0 ∙ ap (λ n. taken n packet) place,
      ap (λ l. left_by (l ∷ lines)) none ∙ ap (λ ls. [] ∷ ls) more.1 ∙ ap (λ l. l ∷ set lines c packets) (sym none),
    )

pub none-taken : (lines : List (List Packet)) (b : ℕ) → ((j : ℕ) → j < length lines → get_or lines j [] ≡ []) → (taken_from b lines ≡ Nothing) × (left_by lines ≡ lines)
unfolding taken_from left_by
none-taken [] b empty = (refl, refl)
none-taken (line ∷ lines) b empty =
    let none : line ≡ [] = empty 0 (omega arith) in
    let more = none-taken lines (b + 1) (λ j h. empty (suc j) (omega arith)) in (
      ap (λ l. taken_from b (l ∷ lines)) none ∙ more.0,
      ap (λ l. left_by (l ∷ lines)) none ∙ ap (λ ls. [] ∷ ls) more.1 ∙ ap (λ l. l ∷ lines) (sym none),
    )

-- the memory when the first packet of class c is taken
abbrev pub took_cells : Queues → List Cell → ℕ → List Cell
took_cells q cells c = set cells (queue_of q c).first (record { packet = packet_at cells (queue_of q c).first; next = q.free })

-- the queue without its first packet, and the queues
abbrev pub rest_of : Queues → List Cell → ℕ → Queue
rest_of q cells c =
    record {
      first = next_at cells (queue_of q c).first;
      last = (queue_of q c).last;
      count = (queue_of q c).count - 1;
      ticks = (queue_of q c).ticks - (packet_at cells (queue_of q c).first).length;
    }

abbrev pub took : Queues → List Cell → ℕ → Queues
took q cells c =
    record {
      classes = set q.classes c (rest_of q cells c);
      free = (queue_of q c).first;
      free_count = q.free_count + 1;
    }

empty-line : (q : Queues) (cells : List Cell) (lines : List (List Packet)) → Holds q cells lines → (c : ℕ) → c < 8 → (queue_of q c).count ≡ 0 → get_or lines c [] ≡ []
unfolding places
empty-line q cells lines held c class none = held.line c class ∙ ap (chain cells (queue_of q c).first) none

pub nothing-taken : (q : Queues) (cells : List Cell) (lines : List (List Packet)) → Holds q cells lines → Lowest q None →
    (taken_from 0 lines ≡ Nothing) × (left_by lines ≡ lines)
nothing-taken q cells lines held empty =
    none-taken lines 0 (λ j h. empty-line q cells lines held j (omega (arith, held.eight)) (empty j (omega (arith, held.eight))))

module _ (q : Queues) (cells : List Cell) (lines : List (List Packet)) (held : Holds q cells lines) (c : ℕ) (class : c < 8) (some : 0 < (queue_of q c).count) where
  abbrev p : ℕ
  p = (queue_of q c).first

  abbrev k : ℕ
  k = (queue_of q c).count - 1

  abbrev rest : List ℕ
  rest = places cells (next_at cells p) k

  split : places_of q cells c ≡ p ∷ rest
  split = places-first cells p (queue_of q c).count some

  here : 0 < occurs p (places_of q cells c)
  here = omega (arith, ap (occurs p) split, occurs_here p rest)

  apart : occurs p rest ≡ 0
  apart = omega (arith, ap (occurs p) split, occurs_here p rest, queued-once q cells lines held p c class here)

  line_is : get_or lines c [] ≡ packet_at cells p ∷ map (packet_at cells) rest
  line_is = held.line c class ∙ ap (map (packet_at cells)) split

  ticks_are : (queue_of q c).ticks ≡ (packet_at cells p).length + ticks_of (map (packet_at cells) rest)
  unfolding ticks_of
  ticks_are = held.counted c class ∙ ap ticks_of line_is

  -- no test fails
  pub first_is_cell : p < length cells
  first_is_cell = queued_cell q cells lines held p c class here

  pub ticks_enough : (packet_at cells p).length ≤ (queue_of q c).ticks
  ticks_enough = omega (arith, ticks_are)

  pub free-fits : q.free_count < 4294967295
  free-fits = omega (arith, held.whole, sum_one 8 (λ d. (queue_of q d).count) c class)

  free_is : free_places (took q cells c) (took_cells q cells c) ≡ p ∷ free_places q cells
  free_is =
      let v : Cell = record { packet = packet_at cells p; next = q.free } in
      let next : next_at (set cells p v) p ≡ q.free = ap (λ x. x.next) (get_or-set_same cells p v no_cell first_is_cell) in
      places-more (set cells p v) p q.free_count
      ∙ ap (λ i. p ∷ places (set cells p v) i q.free_count) next
      ∙ ap (λ ps. p ∷ ps) (places_other cells p v q.free q.free_count (queued-free q cells lines held p c class here))

  module _ (eight : length q.classes ≡ 8) where
    now_is : queue_of (took q cells c) c ≡ rest_of q cells c
    now_is = get_or-set_same q.classes c _ no_queue (omega arith)

    placed : places_of (took q cells c) (took_cells q cells c) c ≡ rest
    placed = ap (λ u. places (took_cells q cells c) u.first u.count) now_is ∙ places_other cells p _ (next_at cells p) k apart

    moved : Moved q (took q cells c) cells (took_cells q cells c) c (map (packet_at cells) rest)
    moved =
        record {
          size = length-set cells p _;
          same = λ d h not. get_or-set_other q.classes c d _ no_queue not;
          kept = λ d h not. places_other cells p _ _ _ (queued_other q cells lines held p c class here d h not);
          packets = λ d h not. packets_next cells p q.free (places_of q cells d);
          line = sym (packets_next cells p q.free rest) ∙ ap (map (packet_at (took_cells q cells c))) (sym placed);
          counted = ap (λ u. u.ticks) now_is ∙ ticks-left;
          ends =
              ap (λ u. last_of u.last (places_of (took q cells c) (took_cells q cells c) c)) now_is
              ∙ ap (last_of (queue_of q c).last) placed
              ∙ last_rest (queue_of q c).last p rest (ap (last_of (queue_of q c).last) (sym split) ∙ held.ends c class)
              ∙ sym (ap (λ u. u.last) now_is);
          short = (subst (Each (λ p. p.length ≤ 255)) line_is (held.short c class)).1;
          once = λ x. omega (arith, ap (occurs x) split, ap (occurs x) placed, ap (occurs x) free_is, occurs-more x p rest, occurs-more x p (free_places q cells));
          counts = omega (arith, ap (λ u. u.count) now_is);
        }
      where
        ticks-left : (queue_of q c).ticks - (packet_at cells p).length ≡ ticks_of (map (packet_at cells) rest)
        ticks-left = omega (arith, ticks_are)

    pub took_holds : IsLowest q c → (taken c (packet_at cells p) ≡ taken_from 0 lines) × Holds (took q cells c) (took_cells q cells c) (left_by lines)
    took_holds lowest =
        let is = taken_at lines 0 c (packet_at cells p) (map (packet_at cells) rest) (omega (arith, held.eight)) (λ j h. empty-line q cells lines held j (omega arith) (lowest.below j h)) line_is in
        let place : 0 + c ≡ c = omega arith in (
          sym (is.0 ∙ ap (λ n. taken n (packet_at cells p)) place),
          subst (Holds (took q cells c) (took_cells q cells c)) (sym is.1) (moved_holds q (took q cells c) cells (took_cells q cells c) lines c _ class held moved),
        )
