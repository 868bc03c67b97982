-- Who may not pass now may not pass later in the tick either. Assumes nothing.
use Rattle.std.proofs.Common.{◌≡◌, ℕ, zero, suc, ◌-◌, ◌*◌, ◌<◌, ◌≤◌, Bool, true, false, cond, ◌&&◌, ltb, leb, List, [], ◌∷◌, length, get_or, set, Some, sym, refl, ap, ◌∙◌, subst, inl, inr, arith, mul-zero}
use native.Mathlib.Nat.{sub_self}
use Rattle.std.proofs.lemmas.List.{get_or-set_same, get_or-set_other, length-set, length_push}
use Rattle.std.proofs.lemmas.Bool.{cases_Bool, cases_eq, cases_lt, and_parts, ltb-true, leb-true, le-leb, lt-ltb, le-ltb}
use Rattle.lines.specs.declared.packet.Packet.{Packet}
use Rattle.lines.specs.Lines.{head_of}
use Rattle.levels.specs.Levels.{den, LevelModel, level_at, at_tick, passes_now, may_pass, spent}
use Rattle.levels.proofs.TickLaws.{may as may_by_level, may-only}
use Rattle.queues.specs.Lines.{packets_in, put_in, sum_over}
use Rattle.gates.specs.Gates.{no_level, level_of, class_of, known, has_cell, marked, may_go, spent_by, queued_by, opened}
use Rattle.gates.proofs.GateLaws.{gate_regulates}
use Rattle.machine.specs.Joint.{MachineModel}
use Rattle.machine.specs.Runs.{after_open}
use Rattle.egress.specs.Egress.{GateModel, gate_at, open_one, open_all}
use Rattle.egress.specs.Laws.{NobodyPutOff}

-- both tests hold
pub both : (x y : Bool) → x ≡ true → y ≡ true → (x && y) ≡ true
both x y h k = rw (h, k) refl

-- a level that is spent lets nobody pass whom it did not let before
less-at : (l : LevelModel) (t n len : ℕ) → l.last ≤ t →
    may_pass (record { burst = l.burst; rate = l.rate; level = level_at l t - den * n; last = t }) t len ≡ true → may_pass l t len ≡ true
less-at l t n len past may =
    let less : LevelModel = record { burst = l.burst; rate = l.rate; level = level_at l t - den * n; last = t } in
    let enough = may-only less t len (omega arith) may in
    let none : l.rate * (t - t) ≡ 0 = rw (sub_self, mul-zero) refl in
    may_by_level l t len past (omega arith)

same-at : (l : LevelModel) (t len : ℕ) → l.last ≤ t →
    may_pass (record { burst = l.burst; rate = l.rate; level = level_at l t; last = t }) t len ≡ true → may_pass l t len ≡ true
same-at l t len past may =
    let later : LevelModel = record { burst = l.burst; rate = l.rate; level = level_at l t; last = t } in
    let enough = may-only later t len (omega arith) may in
    let none : l.rate * (t - t) ≡ 0 = rw (sub_self, mul-zero) refl in
    may_by_level l t len past (omega arith)

spent-late : (l : LevelModel) (t n len : ℕ) → l.last ≤ t → may_pass (spent (at_tick l t) n) t len ≡ true → may_pass l t len ≡ true
spent-late l t n len past may = by (leb (den * n) (level_at l t)) (subst (λ x. may_pass (spent x n) t len ≡ true) now may)
  where
    now : at_tick l t ≡ record { burst = l.burst; rate = l.rate; level = level_at l t; last = t }
    now = rw (le-ltb t l.last past) refl

    by : (b : Bool) →
        may_pass
        (cond b (record { burst = l.burst; rate = l.rate; level = level_at l t - den * n; last = t })
        (record { burst = l.burst; rate = l.rate; level = level_at l t; last = t })) t len ≡ true →
        may_pass l t len ≡ true
    by true h = less-at l t n len past h
    by false h = same-at l t len past h

-- before its last tick a level stays as it is
spent-early : (l : LevelModel) (t n len : ℕ) → t < l.last → may_pass (spent (at_tick l t) n) t len ≡ true → may_pass l t len ≡ true
spent-early l t n len before may = by (passes_now l n) (subst (λ x. may_pass (spent x n) t len ≡ true) now may)
  where
    is : ltb t l.last ≡ true
    is = lt-ltb t l.last before

    now : at_tick l t ≡ l
    now = rw is refl

    by : (b : Bool) → may_pass (cond b (record { burst = l.burst; rate = l.rate; level = l.level - den * n; last = l.last }) l) t len ≡ true → may_pass l t len ≡ true
    by true h =
        let enough = leb-true (den * len) (l.level - den * n) (rw is at h) in
        rw is (le-leb (den * len) l.level (omega arith))
    by false h = h

spent-lower : (l : LevelModel) (t n len : ℕ) → may_pass (spent (at_tick l t) n) t len ≡ true → may_pass l t len ≡ true
spent-lower l t n len may =
    elim (cases_lt t l.last) [
      | inl before ↦ spent-early l t n len before may
      | inr past ↦ spent-late l t n len past may
    ]

-- a packet more takes a cell
more-packets : (ls : List (List Packet)) (c : ℕ) (w : Packet) → packets_in ls ≤ packets_in (put_in ls c w)
unfolding sum_over
more-packets [] c w = omega arith
more-packets (l ∷ ls) zero w = omega (arith, length_push l w)
more-packets (l ∷ ls) (suc c) w = omega (arith, more-packets ls c w)

-- the level of a flow after one of its packets or of another flow passed
level_before : (tick : ℕ) (packet q : Packet) (levels : List LevelModel) → packet.flow < length levels →
    may_pass (level_of (spent_by tick q levels) packet) tick packet.length ≡ true → may_pass (level_of levels packet) tick packet.length ≡ true
level_before tick packet q levels within may =
    elim (cases_eq q.flow packet.flow) [
      | inl same ↦
          let here : level_of (spent_by tick q levels) packet ≡ spent (at_tick (level_of levels packet) tick) q.length =
          ap (λ k. get_or (set levels k (spent (at_tick (get_or levels k no_level) tick) q.length)) packet.flow no_level) same
          ∙ get_or-set_same levels packet.flow (spent (at_tick (level_of levels packet) tick) q.length) no_level within in
          spent-lower (level_of levels packet) tick q.length packet.length (subst (λ l. may_pass l tick packet.length ≡ true) here may)
      | inr other ↦
          subst (λ l. may_pass l tick packet.length ≡ true)
          (get_or-set_other levels q.flow packet.flow (spent (at_tick (level_of levels q) tick) q.length) no_level (λ e. other (sym e))) may
    ]

module _ (room : ℕ) (classes : List ℕ) (tick : ℕ) (packet : Packet) where
  -- who may pass after another might before
  before-it : (b : Bool) (q : Packet) (levels : List LevelModel) (ls : List (List Packet)) →
      may_go room classes tick packet (spent_by tick q levels) (queued_by b classes tick q ls) ≡ true → may_go room classes tick packet levels ls ≡ true
  before-it b q levels ls may =
      let after : LevelModel = spent (at_tick (level_of levels q) tick) q.length in
      let parts = and_parts (known classes packet (set levels q.flow after)) (may_pass (level_of (set levels q.flow after) packet) tick packet.length && has_cell room (class_of classes packet) (queued_by b classes tick q ls)) may in
      let is_Known = and_parts (ltb packet.flow (length (set levels q.flow after))) (ltb packet.flow (length classes)) parts.0 in
      let more = and_parts (may_pass (level_of (set levels q.flow after) packet) tick packet.length) (has_cell room (class_of classes packet) (queued_by b classes tick q ls)) parts.1 in
      let cell = and_parts (leb (class_of classes packet) 7) (ltb (packets_in (queued_by b classes tick q ls)) room) more.1 in
      let within : packet.flow < length levels = omega (arith, ltb-true packet.flow (length (set levels q.flow after)) is_Known.0, length-set levels q.flow after) in
      let free : packets_in ls < room =
      omega (arith, ltb-true (packets_in (queued_by b classes tick q ls)) room cell.1, more-packets ls (class_of classes q) (marked b tick q)) in
      both (known classes packet levels) (may_pass (level_of levels packet) tick packet.length && has_cell room (class_of classes packet) ls)
      (both (ltb packet.flow (length levels)) (ltb packet.flow (length classes)) (lt-ltb packet.flow (length levels) within) is_Known.1)
      (both (may_pass (level_of levels packet) tick packet.length) (has_cell room (class_of classes packet) ls)
      (level_before tick packet q levels within more.0)
      (both (leb (class_of classes packet) 7) (ltb (packets_in ls) room) cell.0 (lt-ltb (packets_in ls) room free)))

  still_held : (b : Bool) (q : Packet) (levels : List LevelModel) (ls : List (List Packet)) → may_go room classes tick packet levels ls ≡ false →
      may_go room classes tick packet (spent_by tick q levels) (queued_by b classes tick q ls) ≡ false
  still_held b q levels ls held =
      elim (cases_Bool (may_go room classes tick packet (spent_by tick q levels) (queued_by b classes tick q ls))) [
        | inl may ↦ let might = before-it b q levels ls may in let never : true ≡ false = sym might ∙ held in cc
        | inr not ↦ not
      ]

  held-opened : (b : Bool) (ws : List Packet) (levels : List LevelModel) (ls : List (List Packet)) → may_go room classes tick packet levels ls ≡ false →
      may_go room classes tick packet (opened room b classes tick ws levels ls).levels (opened room b classes tick ws levels ls).queues ≡ false
  unfolding opened
  held-opened b [] levels ls held = held
  held-opened b (q ∷ ws) levels ls held =
      elim (cases_Bool (may_go room classes tick q levels ls)) [
        | inl may ↦ rw may (held-opened b ws (spent_by tick q levels) (queued_by b classes tick q ls) (still_held b q levels ls held))
        | inr not ↦ rw not held
      ]

module _ (room : ℕ) (classes : List ℕ) (packet : Packet) where
  held-all : (gates : List GateModel) (s : MachineModel) → may_go room classes s.tick packet s.levels s.queues ≡ false →
      may_go room classes s.tick packet (open_all room classes gates s).machine.levels (open_all room classes gates s).machine.queues ≡ false
  unfolding open_all
  held-all [] s held = held
  held-all (g ∷ gs) s held =
      held-all gs (after_open s (open_one room classes g s)) (held-opened room classes s.tick packet g.at_edge g.waits s.levels s.queues held)

  first_held : (gates : List GateModel) (s : MachineModel) (k : ℕ) → head_of (gate_at (open_all room classes gates s).gates k).waits ≡ Some packet →
      may_go room classes s.tick packet (open_all room classes gates s).machine.levels (open_all room classes gates s).machine.queues ≡ false
  unfolding open_all
  first_held [] s k first = cc
  first_held (g ∷ gs) s zero first =
      held-all gs (after_open s (open_one room classes g s))
      ((gate_regulates room g.at_edge classes s.tick g.waits s.levels s.queues).held packet first)
  first_held (g ∷ gs) s (suc k) first = first_held gs (after_open s (open_one room classes g s)) k first

pub nobody_put_off : NobodyPutOff
nobody_put_off room classes e k packet first = first_held room classes packet e.gates e.machine k first
