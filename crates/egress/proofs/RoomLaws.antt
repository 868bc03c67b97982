-- As many cells as the queues need ticks are enough for all packets that may pass. Assumes nothing.
use Rattle.std.proofs.Common.{◌≡◌, ℕ, suc, ◌+◌, ◌<◌, ◌≤◌, Bool, true, false, ◌&&◌, ltb, leb, List, [], ◌∷◌, map, length, get_or, sym, refl, ap, ◌∙◌, subst, inl, inr, arith}
use Rattle.std.specs.List.{AllByRecursion as Each}
use Rattle.std.proofs.ByRecursion.{All-get_or}
use Rattle.std.proofs.lemmas.List.{length-map, get_or_past}
use Rattle.std.proofs.lemmas.Bool.{cases_Bool, cases_lt, and_parts, ltb-true, le-leb, lt-ltb}
use Rattle.flows.specs.Flow.{FlowModel}
use Rattle.flows.specs.FlowFormat.{passes as on_road}
use Rattle.promises.specs.Promises.{over}
use Rattle.promises.specs.Laws.{Classed}
use Rattle.promises.proofs.PromiseLaws.{port-covers}
use Rattle.lines.specs.declared.packet.Packet.{Packet}
use Rattle.levels.specs.Levels.{LevelModel, may_pass}
use Rattle.queues.specs.Lines.{packets_in, ticks_in, ticks_of, sum_over, sum_to}
use Rattle.queues.proofs.ChainLaws.{sum_over_lem}
use Rattle.queues.proofs.QueueLaws.{packets_put}
use Rattle.gates.specs.Gates.{level_of, class_of, known, has_cell, marked, may_go}
use Rattle.port.specs.Port.{flow_at, no_flow}
use Rattle.port.proofs.PortLaws.{run-kept}
use Rattle.machine.specs.Joint.{MachineModel, bare, bare_of}
use Rattle.machine.specs.Runs.{Fitting, after_pass, Goes, begins, passes, takes, ticks}
use Rattle.machine.proofs.RunLaws.{goes_as_port, queues-kept}
use Rattle.egress.specs.Plays.{Setup, Enough, Reached}
use Rattle.egress.specs.Laws.{RoomNeverBinds}
use Rattle.egress.proofs.HeldLaws.{both}
use Rattle.egress.proofs.GoesLaws.{Queued, each_queued}

-- each packet is at least one tick
fewer : (fs : List FlowModel) (c : ℕ) (ws : List Packet) → Each (Queued fs c) ws → length ws ≤ ticks_of ws
unfolding ticks_of
fewer fs c [] each = omega arith
fewer fs c (w ∷ ws) each = let more = fewer fs c ws each.1 in let some = each.0.some in omega arith

all_fewer : (fs : List FlowModel) (b : ℕ) (ls : List (List Packet)) → ((c : ℕ) → Each (Queued fs (b + c)) (get_or ls c [])) → packets_in ls ≤ ticks_in ls
unfolding sum_over
all_fewer fs b [] each = omega arith
all_fewer fs b (l ∷ ls) each =
    let next : (c : ℕ) → b + suc c ≡ b + 1 + c = λ c. omega arith in
    let rest = all_fewer fs (b + 1) ls (λ c. subst (λ n. Each (Queued fs n) (get_or ls c [])) (next c) (each (suc c))) in
    let first = fewer fs (b + 0) l (each 0) in
    omega arith

-- who may pass with some cells may with more
may-more : (room more : ℕ) (classes : List ℕ) (tick : ℕ) (packet : Packet) (levels : List LevelModel) (ls : List (List Packet)) → room ≤ more →
    may_go room classes tick packet levels ls ≡ true → may_go more classes tick packet levels ls ≡ true
may-more room more classes tick packet levels ls most may =
    let parts = and_parts (known classes packet levels) (may_pass (level_of levels packet) tick packet.length && has_cell room (class_of classes packet) ls) may in
    let rest = and_parts (may_pass (level_of levels packet) tick packet.length) (has_cell room (class_of classes packet) ls) parts.1 in
    let cell = and_parts (leb (class_of classes packet) 7) (ltb (packets_in ls) room) rest.1 in
    let free : packets_in ls < more = omega (arith, ltb-true (packets_in ls) room cell.1) in
    both (known classes packet levels) (may_pass (level_of levels packet) tick packet.length && has_cell more (class_of classes packet) ls) parts.0
    (both (may_pass (level_of levels packet) tick packet.length) (has_cell more (class_of classes packet) ls) rest.0
    (both (leb (class_of classes packet) 7) (ltb (packets_in ls) more) cell.0 (lt-ltb (packets_in ls) more free)))

roomier : (e : ℕ → Bool) (p : ℕ) (fs : List FlowModel) (room more : ℕ) (classes : List ℕ) (s : MachineModel) → room ≤ more →
    Goes e p fs room classes s → Goes e p fs more classes s
roomier e p fs room more classes _ most begins = begins
roomier e p fs room more classes _ most (passes {s = s} packet goes may) =
    passes packet (roomier e p fs room more classes s most goes)
    (record { fitting = may.fitting; may = may-more room more classes s.tick packet s.levels s.queues most may.may })
roomier e p fs room more classes _ most (takes {s = s} class packet goes may) = takes class packet (roomier e p fs room more classes s most goes) may
roomier e p fs room more classes _ most (ticks {s = s} goes may) = ticks (roomier e p fs room more classes s most goes) may

pub eight-queues : (a : Setup) (s : MachineModel) → Enough a → Reached a s → length s.queues ≡ 8
eight-queues a s enough reached =
    let it = goes_as_port a.enters a.port a.flows a.room a.classes s reached in
    let kept = run-kept a.port a.flows it.port enough.within it.run in
    sym (length-map s.queues (map (bare a.enters))) ∙ ap length it.shows.queues ∙ length-map it.port.queues (map (bare_of a.enters)) ∙ kept.eight

-- a flow over a port is one of the list
pub listed : (p : ℕ) (fs : List FlowModel) (k : ℕ) → over p (flow_at fs k) ≡ true → k < length fs
unfolding on_road
listed p fs k crosses =
    elim (cases_lt k (length fs)) [
      | inl within ↦ within
      | inr past ↦
          let none : flow_at fs k ≡ no_flow = get_or_past fs k no_flow past in
          let never : false ≡ true = sym (ap (λ f. over p f) none) ∙ crosses in
          cc
    ]

module _ (a : Setup) (s : MachineModel) (packet : Packet) (enough : Enough a) (reached : Reached a s) (fits : Fitting a.port a.flows a.classes packet) where
  pub flow-listed : packet.flow < length a.flows
  flow-listed = listed a.port a.flows packet.flow fits.crosses

  pub flow-level : packet.flow < length s.levels
  flow-level = omega (arith, (goes_as_port a.enters a.port a.flows a.room a.classes s reached).shows.many, flow-listed)

  flow-known : known a.classes packet s.levels ≡ true
  flow-known =
      let table = enough.table in
      both (ltb packet.flow (length s.levels)) (ltb packet.flow (length a.classes))
      (lt-ltb packet.flow (length s.levels) flow-level) (lt-ltb packet.flow (length a.classes) (omega (arith, flow-listed)))

  low : class_of a.classes packet ≤ 7
  low = omega (arith, fits.class, All-get_or Classed a.flows packet.flow no_flow flow-listed enough.within.classed)

  -- as if there were cells for all that wait and one more
  roomy : Setup
  roomy = record { port = a.port; flows = a.flows; enters = a.enters; room = a.room + packets_in s.queues + 1; classes = a.classes; edges = a.edges }

  free-cell : may_pass (level_of s.levels packet) s.tick packet.length ≡ true → packets_in s.queues < a.room
  unfolding roomy
  free-cell may =
      let more : ℕ = a.room + packets_in s.queues + 1 in
      let after : MachineModel = after_pass a.enters a.classes s packet in
      let goes : may_go more a.classes s.tick packet s.levels s.queues ≡ true =
      both (known a.classes packet s.levels) (may_pass (level_of s.levels packet) s.tick packet.length && has_cell more (class_of a.classes packet) s.queues) flow-known
      (both (may_pass (level_of s.levels packet) s.tick packet.length) (has_cell more (class_of a.classes packet) s.queues) may
      (both (leb (class_of a.classes packet) 7) (ltb (packets_in s.queues) more) (le-leb (class_of a.classes packet) 7 low) (lt-ltb (packets_in s.queues) more (omega arith)))) in
      let next : Goes a.enters a.port a.flows more a.classes after =
      passes packet (roomier a.enters a.port a.flows a.room more a.classes s (omega arith) reached) (record { fitting = fits; may = goes }) in
      let also : Enough roomy = record { within = enough.within; holding = enough.holding; short = enough.short; table = enough.table; cells = let cells = enough.cells in omega arith } in
      let most = queues-kept a.enters a.port a.flows more a.classes after 7 enough.within next in
      let covers = port-covers a.port 7 a.flows enough.within.classed enough.holding in
      let cells = enough.cells in
      let eight = eight-queues roomy after also next in
      let from_zero : (c : ℕ) → c ≡ 0 + c = λ c. omega arith in
      let few = all_fewer a.flows 0 after.queues (λ c. subst (λ n. Each (Queued a.flows n) (get_or after.queues c [])) (from_zero c) (each_queued roomy after also next c)) in
      let before = eight-queues a s enough reached in
      let put = packets_put s.queues (class_of a.classes packet) (marked (a.enters packet.flow) s.tick packet) (omega (arith, low)) in
      let sums = sum_over_lem ticks_of after.queues in
      let count : sum_to (length after.queues) (λ d. ticks_of (get_or after.queues d [])) ≡ sum_to 8 (λ d. ticks_of (get_or after.queues d [])) =
      ap (λ n. sum_to n (λ d. ticks_of (get_or after.queues d []))) eight in
      omega arith

  pub by_level : may_go a.room a.classes s.tick packet s.levels s.queues ≡ may_pass (level_of s.levels packet) s.tick packet.length
  by_level =
      elim (cases_Bool (may_pass (level_of s.levels packet) s.tick packet.length)) [
        | inl may ↦
            both (known a.classes packet s.levels) (may_pass (level_of s.levels packet) s.tick packet.length && has_cell a.room (class_of a.classes packet) s.queues) flow-known
            (both (may_pass (level_of s.levels packet) s.tick packet.length) (has_cell a.room (class_of a.classes packet) s.queues) may
            (both (leb (class_of a.classes packet) 7) (ltb (packets_in s.queues) a.room) (le-leb (class_of a.classes packet) 7 low) (lt-ltb (packets_in s.queues) a.room (free-cell may))))
            ∙ sym may
        | inr not ↦ rw (flow-known, not) refl
      ]

pub room_never_binds : RoomNeverBinds
room_never_binds a s packet enough reached fits = by_level a s packet enough reached fits
