-- A gate at the edge that is opened before each that comes. Assumes nothing.
use Rattle.std.proofs.Common.{◌≡◌, ℕ, Bool, true, false, List, [], ◌∷◌, ◌++◌, map, length, nat_lt, refl, sym, ap, ◌∙◌, subst, inl, inr, arith}
use Rattle.std.proofs.lemmas.List.{append_assoc, append-nil}
use Rattle.std.proofs.lemmas.Bool.{cases_Bool, lt-ltb, le-ltb}
use Rattle.lines.specs.declared.line.Line.{Line}
use Rattle.lines.specs.declared.packet.Packet.{Packet}
use Rattle.lines.specs.Lines.{waits, Fits}
use Rattle.lines.specs.Means.{Longer, Full}
use Rattle.levels.specs.declared.level.Level.{Level}
use Rattle.levels.specs.Levels.{LevelModel}
use Rattle.levels.specs.Models.{level_model}
use Rattle.queues.specs.declared.cell.Cell.{Cell}
use Rattle.queues.specs.declared.queues_of.Queues.{Queues}
use Rattle.gates.specs.Gates.{Opened, may_go, spent_by, queued_by, opened}
use Rattle.gates.specs.Opens.{Opens}
use Rattle.regulators.specs.declared.coming.Coming.{Coming}
use Rattle.regulators.specs.Judged.{judged, edge_accepts, GateTick, edge_tick}
use Rattle.regulators.specs.Ticked.{behind, Ticked, EdgeEnds}
use Rattle.regulators.proofs.WaitLaws.{count_waits}

module _ (room : ℕ) (at_edge : Bool) (classes : List ℕ) (tick : ℕ) where
  -- who comes later may as well come when the gate has been opened
  pub opened-append : (ws zs : List Packet) (levels : List LevelModel) (ls : List (List Packet)) (o : Opened) →
      o ≡ opened room at_edge classes tick ws levels ls →
      opened room at_edge classes tick (ws ++ zs) levels ls ≡ opened room at_edge classes tick (o.waits ++ zs) o.levels o.queues
  unfolding opened
  opened-append [] zs levels ls o is = rw is refl
  opened-append (p ∷ ps) zs levels ls o is =
      elim (cases_Bool (may_go room classes tick p levels ls)) [
        | inl may ↦
            rw may (opened-append ps zs (spent_by tick p levels) (queued_by at_edge classes tick p ls) o (is ∙ rw may))
        | inr not ↦
            let same : o ≡ record { waits = p ∷ ps; levels = levels; queues = ls } = is ∙ rw not in
            rw same refl
      ]

module _ (room : ℕ) (classes : List ℕ) (tick : ℕ) where
  -- whatever comes, the same passes, and the same waits
  pub record Alike (ws : List Packet) (levels : List LevelModel) (ls : List (List Packet)) (vs : List Packet) (others : List LevelModel) (ms : List (List Packet)) : Type 0 where
    pub same : (zs : List Packet) → opened room true classes tick (ws ++ zs) levels ls ≡ opened room true classes tick (vs ++ zs) others ms

  module _ (levels others : List LevelModel) (ls ms : List (List Packet)) where
    one-more : (ws vs : List Packet) (p : Packet) → Alike ws levels ls vs others ms → Alike (ws ++ p ∷ []) levels ls (vs ++ p ∷ []) others ms
    one-more ws vs p alike =
        record {
          same = λ zs.
              ap (λ x. opened room true classes tick x levels ls) (append_assoc ws (p ∷ []) zs)
              ∙ alike.same (p ∷ zs)
              ∙ ap (λ x. opened room true classes tick x others ms) (sym (append_assoc vs (p ∷ []) zs));
        }

    now : (ws vs : List Packet) → Alike ws levels ls vs others ms → opened room true classes tick ws levels ls ≡ opened room true classes tick vs others ms
    now ws vs alike =
        ap (λ x. opened room true classes tick x levels ls) (sym (append-nil ws))
        ∙ alike.same []
        ∙ ap (λ x. opened room true classes tick x others ms) (append-nil vs)

    pub ticks_alike : (ws vs : List Packet) (cs : List Coming) → Alike ws levels ls vs others ms →
        edge_tick room classes tick ws levels ls cs ≡ edge_tick room classes tick vs others ms cs
    unfolding judged
    ticks_alike ws vs [] alike = ap (λ (o : Opened). let t : GateTick = record { refused = []; opened = o } in t) (now ws vs alike)
    ticks_alike ws vs (c ∷ cs) alike =
        let test : edge_accepts room classes tick levels ls ws c.packet ≡ edge_accepts room classes tick others ms vs c.packet =
        ap (λ (o : Opened). nat_lt (length o.waits) 64) (now ws vs alike) in
        elim (cases_Bool (edge_accepts room classes tick others ms vs c.packet)) [
          | inl few ↦ rw (test, few) (ticks_alike (ws ++ c.packet ∷ []) (vs ++ c.packet ∷ []) cs (one-more ws vs c.packet alike))
          | inr many ↦ rw (test, many) (ap (behind (c.number ∷ [])) (ticks_alike ws vs cs alike))
        ]

  module _ (ws : List Packet) (levels : List LevelModel) (ls : List (List Packet)) (o : Opened)
      (is : o ≡ opened room true classes tick ws levels ls) (c : Coming) (cs : List Coming) where
    left_alike : Alike ws levels ls o.waits o.levels o.queues
    left_alike = record { same = λ zs. opened-append room true classes tick ws zs levels ls o is }

    -- one that comes is put behind those that still wait
    pub tick-accepts : nat_lt (length o.waits) 64 ≡ true →
        edge_tick room classes tick (o.waits ++ c.packet ∷ []) o.levels o.queues cs ≡ edge_tick room classes tick ws levels ls (c ∷ cs)
    unfolding judged
    tick-accepts few =
        let test : edge_accepts room classes tick levels ls ws c.packet ≡ true = ap (λ (x : Opened). nat_lt (length x.waits) 64) (sym is) ∙ few in
        rw test (sym (ticks_alike levels o.levels ls o.queues (ws ++ c.packet ∷ []) (o.waits ++ c.packet ∷ []) cs
        (one-more levels o.levels ls o.queues ws o.waits c.packet left_alike)))

    -- or it is refused
    pub tick-refuses : nat_lt (length o.waits) 64 ≡ false →
        behind (c.number ∷ []) (edge_tick room classes tick o.waits o.levels o.queues cs) ≡ edge_tick room classes tick ws levels ls (c ∷ cs)
    unfolding judged
    tick-refuses many =
        let test : edge_accepts room classes tick levels ls ws c.packet ≡ false = ap (λ (x : Opened). nat_lt (length x.waits) 64) (sym is) ∙ many in
        rw test (ap (behind (c.number ∷ [])) (sym (ticks_alike levels o.levels ls o.queues ws o.waits cs left_alike)))

behind-behind : (before more : List ℕ) (t : GateTick) → behind (before ++ more) t ≡ behind before (behind more t)
behind-behind before more t = ap (λ (ns : List ℕ). let u : GateTick = record { refused = ns; opened = t.opened } in u) (append_assoc before more t.refused)

-- one step of the loop over those that come
module _ (room : ℕ) (classes : List ℕ) (tick : ℕ) (cells : List Packet) (line : Line) (levels : List Level) (ls : List (List Packet))
    (before : List ℕ) (c : Coming) (cs : List Coming) (t : GateTick) (many : length cells ≡ 64)
    (ends : behind before (edge_tick room classes tick (waits cells line) (map level_model levels) ls (c ∷ cs)) ≡ t)
    (left : Line) (less : List Level) (queues : Queues) (memory : List Cell)
    (opens : Opens cells left less queues memory (opened room true classes tick (waits cells line) (map level_model levels) ls)) where
  abbrev o : Opened
  o = opened room true classes tick (waits cells line) (map level_model levels) ls

  count-left : length o.waits ≡ left.count
  count-left = ap length (sym opens.left) ∙ count_waits cells left opens.fits

  -- it is put behind
  pub accepted-ends : (after : List Packet) (longer : Line) → Longer cells after left longer c.packet →
      EdgeEnds room classes tick after longer less queues memory before cs t
  accepted-ends after longer means =
      let few : nat_lt (length o.waits) 64 ≡ true = lt-ltb (length o.waits) 64 (omega (arith, means.room, count-left)) in
      let same : waits after longer ≡ o.waits ++ c.packet ∷ [] = means.order ∙ ap (λ ws. ws ++ c.packet ∷ []) opens.left in
      record {
        present = o.queues;
        fits = means.fits;
        many = means.cells ∙ many;
        held = opens.held;
        ends =
            ap (λ ws. behind before (edge_tick room classes tick ws (map level_model less) o.queues cs)) same
            ∙ ap (λ lv. behind before (edge_tick room classes tick (o.waits ++ c.packet ∷ []) lv o.queues cs)) opens.spent
            ∙ ap (behind before) (tick-accepts room classes tick (waits cells line) (map level_model levels) ls o refl c cs few)
            ∙ ends;
      }

  -- it is refused
  pub refused-ends : (after : List Packet) (told : List ℕ) → Full cells after left → told ≡ before ++ c.number ∷ [] →
      EdgeEnds room classes tick after left less queues memory told cs t
  refused-ends after told full is =
      let all : nat_lt (length o.waits) 64 ≡ false = le-ltb (length o.waits) 64 (omega (arith, full.full, count-left)) in
      let same : waits after left ≡ o.waits = ap (λ cs. waits cs left) full.cells ∙ opens.left in
      record {
        present = o.queues;
        fits = subst (λ cs. Fits cs left) (sym full.cells) opens.fits;
        many = ap length full.cells ∙ many;
        held = opens.held;
        ends =
            ap (λ ns. behind ns (edge_tick room classes tick (waits after left) (map level_model less) o.queues cs)) is
            ∙ ap (λ ws. behind (before ++ c.number ∷ []) (edge_tick room classes tick ws (map level_model less) o.queues cs)) same
            ∙ ap (λ lv. behind (before ++ c.number ∷ []) (edge_tick room classes tick o.waits lv o.queues cs)) opens.spent
            ∙ behind-behind before (c.number ∷ []) (edge_tick room classes tick o.waits o.levels o.queues cs)
            ∙ ap (behind before) (tick-refuses room classes tick (waits cells line) (map level_model levels) ls o refl c cs all)
            ∙ ends;
      }

-- when all that come have been judged, the gate is opened once more
pub edge-end : (room : ℕ) (classes : List ℕ) (tick : ℕ) (cells : List Packet) (line : Line) (levels : List Level) (queues : Queues)
    (memory : List Cell) (refused : List ℕ) (t : GateTick) (ends : EdgeEnds room classes tick cells line levels queues memory refused [] t)
    (left : Line) (less : List Level) (after : Queues) (written : List Cell) →
    Opens cells left less after written (opened room true classes tick (waits cells line) (map level_model levels) ends.present) →
    Ticked cells left less after written refused t
unfolding judged
edge-end room classes tick cells line levels queues memory refused t ends left less after written opens =
    subst (Ticked cells left less after written refused) ends.ends (record { opens = opens; numbers = sym (append-nil refused) })
