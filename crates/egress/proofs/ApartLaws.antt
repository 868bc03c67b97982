-- What comes to one regulator changes nothing at another, and neither do queues. Assumes nothing.
use Rattle.std.proofs.Common.{◌≡◌, ℕ, suc, ◌+◌, ◌<◌, true, false, List, [], ◌∷◌, ◌++◌, map, length, get_or, set, sym, refl, ap, ◌∙◌, subst, inl, inr, arith}
use Rattle.std.specs.List.{AllByRecursion as Each}
use Rattle.std.proofs.lemmas.List.{append_assoc, append-nil, map-append, get_or-set_same, get_or-set_other}
use Rattle.std.proofs.lemmas.Bool.{cases_Bool, cases_eq}
use Rattle.lines.specs.declared.packet.Packet.{Packet}
use Rattle.levels.specs.Levels.{LevelModel, at_tick, may_pass, spent}
use Rattle.gates.specs.Gates.{no_level, level_of, may_go, spent_by, queued_by, opened}
use Rattle.machine.specs.Runs.{after_pass, passes}
use Rattle.egress.specs.Egress.{GateModel, Accepted, behind, accept, accept_all, numbered, put_rows}
use Rattle.egress.specs.Laws.{ComeByRow, ByLevelsAlone}
use Rattle.egress.proofs.RoomLaws.{by_level, flow-level}

-- rows
accept_both : (cs ds : List Accepted) (gates : List GateModel) → accept_all (cs ++ ds) gates ≡ accept_all ds (accept_all cs gates)
unfolding accept_all
accept_both [] ds gates = refl
accept_both (c ∷ cs) ds gates = accept_both cs ds (accept c gates)

-- packets for later regulators leave the first as it is
abbrev one_later : Accepted → Accepted
one_later c = record { gate = suc c.gate; packet = c.packet }

later-row : (k : ℕ) (row : List Packet) →
    map one_later (map (λ (w : Packet). record { gate = k; packet = w }) row) ≡ map (λ (w : Packet). record { gate = suc k; packet = w }) row
later-row k [] = refl
later-row k (w ∷ row) = ap (λ r. record { gate = suc k; packet = w } ∷ r) (later-row k row)

later-rows : (k : ℕ) (rows : List (List Packet)) → numbered (suc k) rows ≡ map one_later (numbered k rows)
unfolding numbered
later-rows k [] = refl
later-rows k (row ∷ rows) =
    let next : suc k + 1 ≡ suc (k + 1) = omega arith in
    ap (λ n. map (λ (w : Packet). record { gate = suc k; packet = w }) row ++ numbered n rows) next
    ∙ ap (λ r. map (λ (w : Packet). record { gate = suc k; packet = w }) row ++ r) (later-rows (k + 1) rows)
    ∙ ap (λ r. r ++ map one_later (numbered (k + 1) rows)) (sym (later-row k row))
    ∙ sym (map-append one_later (map (λ (w : Packet). record { gate = k; packet = w }) row) (numbered (k + 1) rows))

accept-later : (cs : List Accepted) (gate : GateModel) (gates : List GateModel) → accept_all (map one_later cs) (gate ∷ gates) ≡ gate ∷ accept_all cs gates
unfolding accept_all
accept-later [] gate gates = refl
accept-later (c ∷ cs) gate gates = accept-later cs gate (accept c gates)

accept-none : (cs : List Accepted) → accept_all cs [] ≡ []
unfolding accept_all
accept-none [] = refl
accept-none (c ∷ cs) = accept-none cs

accept-first : (row : List Packet) (gate : GateModel) (gates : List GateModel) →
    accept_all (map (λ (w : Packet). record { gate = 0; packet = w }) row) (gate ∷ gates) ≡ record { at_edge = gate.at_edge; waits = gate.waits ++ row } ∷ gates
unfolding accept_all
accept-first [] gate gates = ap (λ ws. record { at_edge = gate.at_edge; waits = ws } ∷ gates) (sym (append-nil gate.waits))
accept-first (w ∷ row) gate gates =
    accept-first row (behind gate w) gates
    ∙ ap (λ ws. record { at_edge = gate.at_edge; waits = ws } ∷ gates) (append_assoc gate.waits (w ∷ []) row)

pub come-by-row : ComeByRow
unfolding numbered put_rows accept_all
come-by-row [] gates = refl
come-by-row (row ∷ rows) [] = accept-none (map (λ (w : Packet). record { gate = 0; packet = w }) row ++ numbered 1 rows)
come-by-row (row ∷ rows) (gate ∷ gates) =
    let here : GateModel = record { at_edge = gate.at_edge; waits = gate.waits ++ row } in
    accept_both (map (λ (w : Packet). record { gate = 0; packet = w }) row) (numbered 1 rows) (gate ∷ gates)
    ∙ ap (accept_all (numbered 1 rows)) (accept-first row gate gates)
    ∙ ap (λ cs. accept_all cs (here ∷ gates)) (later-rows 0 rows)
    ∙ accept-later (numbered 0 rows) here gates
    ∙ ap (λ gs. here ∷ gs) (come-by-row rows gates)

-- levels after a packet passed at two such states
same_level : (tick : ℕ) (w v : Packet) (ls ks : List LevelModel) → w.flow < length ls → w.flow < length ks → level_of ls w ≡ level_of ks w → level_of ls v ≡ level_of ks v →
    level_of (spent_by tick w ls) v ≡ level_of (spent_by tick w ks) v
same_level tick w v ls ks in-ls in-ks first other =
    elim (cases_eq w.flow v.flow) [
      | inl same ↦
          ap (λ k. get_or (set ls w.flow (spent (at_tick (level_of ls w) tick) w.length)) k no_level) (sym same)
          ∙ get_or-set_same ls w.flow (spent (at_tick (level_of ls w) tick) w.length) no_level in-ls
          ∙ ap (λ l. spent (at_tick l tick) w.length) first
          ∙ sym (get_or-set_same ks w.flow (spent (at_tick (level_of ks w) tick) w.length) no_level in-ks)
          ∙ ap (λ k. get_or (set ks w.flow (spent (at_tick (level_of ks w) tick) w.length)) k no_level) same
      | inr not ↦
          get_or-set_other ls w.flow v.flow (spent (at_tick (level_of ls w) tick) w.length) no_level (λ e. not (sym e))
          ∙ other
          ∙ sym (get_or-set_other ks w.flow v.flow (spent (at_tick (level_of ks w) tick) w.length) no_level (λ e. not (sym e)))
    ]

same_levels : (tick : ℕ) (w : Packet) (vs : List Packet) (ls ks : List LevelModel) → w.flow < length ls → w.flow < length ks → level_of ls w ≡ level_of ks w →
    Each (λ v. level_of ls v ≡ level_of ks v) vs → Each (λ v. level_of (spent_by tick w ls) v ≡ level_of (spent_by tick w ks) v) vs
same_levels tick w [] ls ks in-ls in-ks first others = tt
same_levels tick w (v ∷ vs) ls ks in-ls in-ks first others =
    (same_level tick w v ls ks in-ls in-ks first others.0, same_levels tick w vs ls ks in-ls in-ks first others.1)

pub by_levels_alone : ByLevelsAlone
unfolding opened
by_levels_alone a s t b [] enough to-s to-t tick belong same = refl
by_levels_alone a s t b (w ∷ ws) enough to-s to-t tick belong same =
    let its = belong.0 in
    let here = by_level a s w enough to-s its.0 in
    let there = by_level a t w enough to-t its.0 in
    let both : may_go a.room a.classes s.tick w s.levels s.queues ≡ may_go a.room a.classes t.tick w t.levels t.queues =
    here ∙ ap (λ l. may_pass l s.tick w.length) same.0 ∙ ap (λ n. may_pass (level_of t.levels w) n w.length) tick ∙ sym there in
    elim (cases_Bool (may_go a.room a.classes t.tick w t.levels t.queues)) [
      | inl may ↦
          let might : may_go a.room a.classes s.tick w s.levels s.queues ≡ true = both ∙ may in
          let next-s = passes w to-s (record { fitting = its.0; may = might }) in
          let next-t = passes w to-t (record { fitting = its.0; may = may }) in
          let levels = same_levels s.tick w ws s.levels t.levels (flow-level a s w enough to-s its.0) (flow-level a t w enough to-t its.0) same.0 same.1 in
          let levels_too = subst (λ n. Each (λ v. level_of (spent_by s.tick w s.levels) v ≡ level_of (spent_by n w t.levels) v) ws) tick levels in
          let rest = by_levels_alone a (after_pass a.enters a.classes s w) (after_pass a.enters a.classes t w) b ws enough next-s next-t tick belong.1 levels_too in
          rw (might, may)
          (subst
          (λ d.
          (opened a.room b a.classes s.tick ws (spent_by s.tick w s.levels) (queued_by d a.classes s.tick w s.queues)).waits ≡
          (opened a.room b a.classes t.tick ws (spent_by t.tick w t.levels) (queued_by d a.classes t.tick w t.queues)).waits)
          its.1 rest)
      | inr not ↦ let might : may_go a.room a.classes s.tick w s.levels s.queues ≡ false = both ∙ not in rw (might, not) refl
    ]
