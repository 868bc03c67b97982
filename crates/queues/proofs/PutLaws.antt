-- A packet is put to the end of the queue of its class. Assumes nothing.
use Rattle.std.proofs.Common.{◌≡◌, ℕ, ◌+◌, ◌-◌, ◌*◌, ◌<◌, ◌≤◌, true, false, ◌&&◌, ltb, leb, ◌≢◌, List, [], ◌∷◌, ◌++◌, map, length, get_or, set, sym, ap, ◌∙◌, subst, add-zero, zero-add, arith}
use Rattle.std.specs.List.{AllByRecursion as Each}
use Rattle.std.proofs.lemmas.List.{get_or-set_same, get_or-set_other, length-set, length-map, map_push}
use Rattle.std.proofs.ByRecursion.{All-push}
use Rattle.std.proofs.lemmas.Bool.{le-leb, lt-ltb, le-ltb, and_from, and_right}
use Rattle.lines.specs.declared.packet.Packet.{Packet}
use Rattle.queues.specs.declared.cell.Cell.{Cell}
use Rattle.queues.specs.declared.queues_of.Queue.{Queue}
use Rattle.queues.specs.declared.queues_of.Queues.{Queues}
use Rattle.queues.specs.Lines.{ticks_of, sum_to, packets_in, put_in}
use Rattle.queues.specs.Held.{no_cell, packet_at, next_at, places, last_of, occurs, no_queue, queue_of, places_of, free_places, waits, size, Holds}
use Rattle.queues.proofs.ChainLaws.{occurs_here, occurs-more, occurs_push, not_rest, length-places, places_other, packets_other, packets_next, places-first, places-more, places_push, last-placed, last_push, no_places, sum_same, sum_one, sum_over_lem}
use Rattle.queues.proofs.HoldLaws.{moved_holds, queued_cell, queued-once, queued-free, queued_other, free_cell, free-once, free_other}

pub ticks_push : (line : List Packet) (packet : Packet) → ticks_of (line ++ packet ∷ []) ≡ ticks_of line + packet.length
unfolding ticks_of
ticks_push [] packet = add-zero packet.length ∙ sym (zero-add packet.length)
ticks_push (first ∷ line) packet = omega (arith, ticks_push line packet)

ticks_most : (line : List Packet) → Each (λ p. p.length ≤ 255) line → ticks_of line ≤ 255 * length line
unfolding ticks_of
ticks_most [] short = omega arith
ticks_most (first ∷ line) short = omega (arith, short.0, ticks_most line short.1)

-- how many wait, by the counts
pub all_wait : (q : Queues) (cells : List Cell) (lines : List (List Packet)) → Holds q cells lines → packets_in lines ≡ waits q
all_wait q cells lines held =
    sum_over_lem length lines
    ∙ ap (λ n. sum_to n (λ c. length (get_or lines c []))) held.eight
    ∙ sum_same 8 (λ c. length (get_or lines c [])) (λ c. (queue_of q c).count)
    (λ c h. ap length (held.line c h) ∙ length-map (places_of q cells c) (packet_at cells) ∙ length-places cells _ _)

-- the ticks of a class are far below 64 bits
pub ticks-few : (q : Queues) (cells : List Cell) (lines : List (List Packet)) → Holds q cells lines → (c : ℕ) → c < 8 → (queue_of q c).ticks ≤ 1095216660480
ticks-few q cells lines held c class =
    let long : length (get_or lines c []) ≡ (queue_of q c).count = ap length (held.line c class) ∙ length-map (places_of q cells c) (packet_at cells) ∙ length-places cells _ _ in
    omega (arith, held.counted c class, ticks_most (get_or lines c []) (held.short c class), held.whole, sum_one 8 (λ d. (queue_of q d).count) c class)

-- the answer
pub no_cell_lem : (q : Queues) (cells : List Cell) (lines : List (List Packet)) → Holds q cells lines → (c : ℕ) → q.free_count ≡ 0 → false ≡ (leb c 7 && ltb (packets_in lines) (size cells))
no_cell_lem q cells lines held c none = sym (and_right (leb c 7) _ (le-ltb _ _ (omega (arith, held.whole, all_wait q cells lines held))))

pub may_put : (q : Queues) (cells : List Cell) (lines : List (List Packet)) → Holds q cells lines → (c : ℕ) → c ≤ 7 → 0 < q.free_count → true ≡ (leb c 7 && ltb (packets_in lines) (size cells))
may_put q cells lines held c class some = sym (and_from (leb c 7) _ (le-leb c 7 class) (lt-ltb _ _ (omega (arith, held.whole, all_wait q cells lines held))))

-- the queue of class c when a packet is put, and the queues: where the queue begins may have changed
abbrev pub longer : Queues → ℕ → ℕ → Packet → Queue
longer q first c packet =
    record { first = first; last = q.free; count = (queue_of q c).count + 1; ticks = (queue_of q c).ticks + packet.length }

abbrev pub put_queues : Queues → List Cell → ℕ → ℕ → Packet → Queues
put_queues q cells first c packet =
    record { classes = set q.classes c (longer q first c packet); free = next_at cells q.free; free_count = q.free_count - 1 }

-- the memory: the packet is written to the first free cell, and the last cell of the queue gets it as its next
abbrev pub written : Queues → List Cell → Packet → List Cell
written q cells packet = set cells q.free (record { packet = packet; next = next_at cells q.free })

abbrev pub linked : Queues → List Cell → ℕ → Packet → List Cell
linked q cells c packet =
    set (written q cells packet) (queue_of q c).last (record { packet = packet_at (written q cells packet) (queue_of q c).last; next = q.free })

module _ (q : Queues) (cells : List Cell) (lines : List (List Packet)) (held : Holds q cells lines) (c : ℕ) (class : c < 8) (some : 0 < q.free_count) where
  abbrev f : ℕ
  f = q.free

  abbrev rest : List ℕ
  rest = places cells (next_at cells f) (q.free_count - 1)

  split : free_places q cells ≡ f ∷ rest
  split = places-first cells f q.free_count some

  here : 0 < occurs f (free_places q cells)
  here = omega (arith, ap (occurs f) split, occurs_here f rest)

  apart : occurs f rest ≡ 0
  apart = omega (arith, ap (occurs f) split, occurs_here f rest, free-once q cells lines held f here)

  -- no test fails
  pub free_is_cell : f < length cells
  free_is_cell = free_cell q cells lines held f here

  pub count_fits : (queue_of q c).count < 4294967295
  count_fits = omega (arith, held.whole, sum_one 8 (λ d. (queue_of q d).count) c class)

  module _ (packet : Packet) (fits : packet.length ≤ 255) (eight : length q.classes ≡ 8) where
    -- what a write has to do
    record Puts (first : ℕ) (after : List Cell) : Type 0 where
      size : length after ≡ length cells
      kept : (d : ℕ) → d < 8 → d ≢ c → places after (queue_of q d).first ((queue_of q d).count) ≡ places_of q cells d
      packets : (d : ℕ) → d < 8 → d ≢ c → map (packet_at after) (places_of q cells d) ≡ map (packet_at cells) (places_of q cells d)
      free-kept : places after (next_at cells f) (q.free_count - 1) ≡ rest
      placed : places after first ((queue_of q c).count + 1) ≡ places_of q cells c ++ f ∷ []
      line : map (packet_at after) (places_of q cells c ++ f ∷ []) ≡ map (packet_at cells) (places_of q cells c) ++ packet ∷ []

    puts_holds : (first : ℕ) (after : List Cell) → Puts first after → Holds (put_queues q cells first c packet) after (put_in lines c packet)
    puts_holds first after puts =
        moved_holds q r cells after lines c (get_or lines c [] ++ packet ∷ []) class held
        (record {
          size = puts.size;
          same = λ d h not. get_or-set_other q.classes c d _ no_queue not;
          kept = puts.kept;
          packets = puts.packets;
          line = ap (λ l. l ++ packet ∷ []) (held.line c class) ∙ sym puts.line ∙ ap (map (packet_at after)) (sym there);
          counted = ap (λ u. u.ticks) now_is ∙ ap (λ n. n + packet.length) (held.counted c class) ∙ sym (ticks_push (get_or lines c []) packet);
          ends = ap (last_of (queue_of r c).last) there ∙ last_push (queue_of r c).last f (places_of q cells c) ∙ sym (ap (λ u. u.last) now_is);
          short = All-push (λ p. p.length ≤ 255) (get_or lines c []) packet (held.short c class) fits;
          once = λ x. omega (arith, ap (occurs x) split, ap (occurs x) there, ap (occurs x) puts.free-kept, occurs_push x f (places_of q cells c), occurs-more x f rest);
          counts = omega (arith, ap (λ u. u.count) now_is);
        })
      where
        r : Queues
        r = put_queues q cells first c packet

        now_is : queue_of r c ≡ longer q first c packet
        now_is = get_or-set_same q.classes c _ no_queue (omega arith)

        there : places_of r after c ≡ places_of q cells c ++ f ∷ []
        there = ap (λ u. places after u.first u.count) now_is ∙ puts.placed

    queue-kept : (d : ℕ) → d < 8 → places (written q cells packet) (queue_of q d).first ((queue_of q d).count) ≡ places_of q cells d
    queue-kept d h = places_other cells f _ _ _ (free_other q cells lines held f here d h)

    packets_kept : (d : ℕ) → d < 8 → map (packet_at (written q cells packet)) (places_of q cells d) ≡ map (packet_at cells) (places_of q cells d)
    packets_kept d h = packets_other cells f _ _ (free_other q cells lines held f here d h)

    rest-kept : places (written q cells packet) (next_at cells f) (q.free_count - 1) ≡ rest
    rest-kept = places_other cells f _ _ _ apart

    line-more : map (packet_at (written q cells packet)) (places_of q cells c ++ f ∷ []) ≡ map (packet_at cells) (places_of q cells c) ++ packet ∷ []
    line-more =
        let it : packet_at (written q cells packet) f ≡ packet = ap (λ x. x.packet) (get_or-set_same cells f _ no_cell free_is_cell) in
        map_push (packet_at (written q cells packet)) (places_of q cells c) f
        ∙ ap (λ ps. ps ++ packet_at (written q cells packet) f ∷ []) (packets_kept c class)
        ∙ ap (λ p. map (packet_at cells) (places_of q cells c) ++ p ∷ []) it

    -- into an empty queue
    pub put_first : (queue_of q c).count ≡ 0 → Holds (put_queues q cells f c packet) (written q cells packet) (put_in lines c packet)
    put_first none =
        puts_holds f (written q cells packet)
        (record {
          size = length-set cells f _;
          kept = λ d h not. queue-kept d h;
          packets = λ d h not. packets_kept d h;
          free-kept = rest-kept;
          placed =
              places-more (written q cells packet) f (queue_of q c).count
              ∙ ap (λ ps. f ∷ ps) (no_places (written q cells packet) _ _ none)
              ∙ ap (λ ps. ps ++ f ∷ []) (sym (no_places cells (queue_of q c).first _ none));
          line = line-more;
        })

    -- behind the last of a queue
    pub put_last : 0 < (queue_of q c).count → Holds (put_queues q cells (queue_of q c).first c packet) (linked q cells c packet) (put_in lines c packet)
    put_last more =
        puts_holds (queue_of q c).first (linked q cells c packet)
        (record {
          size = length-set (written q cells packet) l _ ∙ length-set cells f _;
          kept = λ d h not. places_other (written q cells packet) l _ _ _ (ap (occurs l) (queue-kept d h) ∙ queued_other q cells lines held l c class there d h not) ∙ queue-kept d h;
          packets = λ d h not. packets_next (written q cells packet) l f (places_of q cells d) ∙ packets_kept d h;
          free-kept = places_other (written q cells packet) l _ _ _ (ap (occurs l) rest-kept ∙ not_rest l f rest (ap (occurs l) (sym split) ∙ queued-free q cells lines held l c class there)) ∙ rest-kept;
          placed =
              places_push (written q cells packet) l (record { packet = packet_at (written q cells packet) l; next = f }) within l _ _ more
              (ap (last_of l) (queue-kept c class) ∙ held.ends c class)
              (subst (λ ps. occurs l ps ≤ 1) (sym (queue-kept c class)) (queued-once q cells lines held l c class there))
              ∙ ap (λ ps. ps ++ f ∷ []) (queue-kept c class);
          line = packets_next (written q cells packet) l f (places_of q cells c ++ f ∷ []) ∙ line-more;
        })
      where
        l : ℕ
        l = (queue_of q c).last

        there : 0 < occurs l (places_of q cells c)
        there = subst (λ x. 0 < occurs x (places_of q cells c)) (held.ends c class) (last-placed cells l _ _ more)

        within : l < length (written q cells packet)
        within = rw length-set (queued_cell q cells lines held l c class there)
