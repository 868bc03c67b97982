-- One step of a gate: its first passes, or it has been opened. Assumes nothing.
use Rattle.std.proofs.Common.{◌≡◌, ℕ, Bool, true, false, List, [], ◌∷◌, map, Some, None, sym, refl, ap, ◌∙◌, subst}
use Rattle.lines.specs.declared.line.Line.{Line}
use Rattle.lines.specs.declared.packet.Packet.{Packet}
use Rattle.lines.specs.Lines.{waits, Fits, head_of, tail_of, shorter}
use Rattle.lines.specs.Means.{Shorter}
use Rattle.levels.specs.declared.level.Level.{Level}
use Rattle.levels.specs.Levels.{LevelModel}
use Rattle.levels.specs.Models.{level_model}
use Rattle.queues.specs.declared.cell.Cell.{Cell}
use Rattle.queues.specs.declared.queues_of.Queues.{Queues}
use Rattle.queues.specs.Held.{Holds}
use Rattle.gates.specs.Gates.{Opened, may_go, spent_by, queued_by, opened}
use Rattle.gates.specs.Opens.{Opens, Ends}

module _ (room : ℕ) (at_edge : Bool) (classes : List ℕ) (tick : ℕ) where
  -- a gate that has been opened
  abbrev as_is : List Packet → List LevelModel → List (List Packet) → Opened
  as_is ws levels ls = record { waits = ws; levels = levels; queues = ls }

  nobody : (ws : List Packet) (levels : List LevelModel) (ls : List (List Packet)) → None ≡ head_of ws →
      opened room at_edge classes tick ws levels ls ≡ as_is ws levels ls
  unfolding opened
  nobody [] levels ls none = refl
  nobody (p ∷ ps) levels ls none = cc

  stays : (ws : List Packet) (levels : List LevelModel) (ls : List (List Packet)) (p : Packet) → Some p ≡ head_of ws →
      false ≡ may_go room classes tick p levels ls → opened room at_edge classes tick ws levels ls ≡ as_is ws levels ls
  unfolding opened
  stays [] levels ls p some not = cc
  stays (q ∷ ps) levels ls p some not =
      let same : p ≡ q = cc in
      let not' : may_go room classes tick q levels ls ≡ false = sym (not ∙ ap (λ x. may_go room classes tick x levels ls) same) in
      rw not'

  goes : (ws : List Packet) (levels : List LevelModel) (ls : List (List Packet)) (p : Packet) → Some p ≡ head_of ws →
      true ≡ may_go room classes tick p levels ls →
      opened room at_edge classes tick (tail_of ws) (spent_by tick p levels) (queued_by at_edge classes tick p ls) ≡
      opened room at_edge classes tick ws levels ls
  unfolding opened
  goes [] levels ls p some may = cc
  goes (q ∷ ps) levels ls p some may =
      let same : p ≡ q = cc in
      let may' : may_go room classes tick q levels ls ≡ true = sym (may ∙ ap (λ x. may_go room classes tick x levels ls) same) in
      rw may' (ap (λ x. opened room at_edge classes tick ps (spent_by tick x levels) (queued_by at_edge classes tick x ls)) same)

  module _ (waiting : List Packet) (line : Line) (levels : List Level) (queues : Queues) (memory : List Cell) (ls : List (List Packet))
      (fits : Fits waiting line) (held : Holds queues memory ls) where
    abbrev all : Opened
    all = opened room at_edge classes tick (waits waiting line) (map level_model levels) ls

    abbrev OpensIt : Opened → Type 0
    OpensIt o = Opens waiting line levels queues memory o

    it_opens : all ≡ as_is (waits waiting line) (map level_model levels) ls → OpensIt all
    it_opens is = subst OpensIt (sym is) (record { left = refl; fits = fits; spent = refl; held = held })

    -- nothing waits
    pub opens_none : None ≡ head_of (waits waiting line) → OpensIt all
    opens_none none = it_opens (nobody (waits waiting line) (map level_model levels) ls none)

    -- the first may not pass
    pub opens_refused : (p : Packet) (same : List Level) (also : Queues) (kept : List Cell) → Some p ≡ head_of (waits waiting line) →
        false ≡ may_go room classes tick p (map level_model levels) ls → (same ≡ levels) × (also ≡ queues) × (kept ≡ memory) →
        Opens waiting line same also kept all
    opens_refused p same also kept some not is =
        rw (is.0, is.1, is.2) (it_opens (stays (waits waiting line) (map level_model levels) ls p some not))

    -- the first passes
    pub ends-rest : (p : Packet) (next : Line) (less : List Level) (after : Queues) (written : List Cell) →
        Some p ≡ head_of (waits waiting line) → Shorter waiting line next → true ≡ may_go room classes tick p (map level_model levels) ls →
        map level_model less ≡ spent_by tick p (map level_model levels) → Holds after written (queued_by at_edge classes tick p ls) →
        Ends room at_edge classes tick waiting next less after written all
    ends-rest p next less after written some shorter may is holds =
        record {
          present = queued_by at_edge classes tick p ls;
          fits = shorter.fits;
          held = holds;
          ends =
              ap (λ ws. opened room at_edge classes tick ws (map level_model less) (queued_by at_edge classes tick p ls)) shorter.order
              ∙ ap (λ lv. opened room at_edge classes tick (tail_of (waits waiting line)) lv (queued_by at_edge classes tick p ls)) is
              ∙ goes (waits waiting line) (map level_model levels) ls p some may;
        }
