-- At the edge one is refused exactly where 64 still wait. Assumes nothing.
use Rattle.std.proofs.Common.{◌≡◌, ℕ, ◌+◌, ◌<◌, ◌≤◌, Bool, true, false, List, [], ◌∷◌, ◌++◌, length, Some, refl, sym, ap, ◌∙◌, subst, inl, inr, arith}
use Rattle.std.proofs.lemmas.List.{append_assoc, append-nil, length-append}
use Rattle.std.proofs.lemmas.Bool.{cases_Bool, cases_lt, lt-ltb, le-ltb, ltb-true}
use Rattle.lines.specs.declared.packet.Packet.{Packet}
use Rattle.lines.specs.Lines.{head_of}
use Rattle.levels.specs.Levels.{LevelModel}
use Rattle.queues.specs.Lines.{sum_over}
use Rattle.gates.specs.Gates.{Opened, may_go, opened}
use Rattle.gates.specs.Laws.{AllMay, spent_by_all, queued_by_all, Regulates}
use Rattle.gates.proofs.GateLaws.{gate_laws}
use Rattle.regulators.specs.declared.coming.Coming.{Coming}
use Rattle.regulators.specs.Judged.{judged, edge_accepts, GateTick, edge_tick}
use Rattle.regulators.specs.Laws.{packets_of, EdgeExact, EdgeLaws, EdgeWorked}
use Rattle.regulators.proofs.EdgeSteps.{opened-append}
use Rattle.regulators.proofs.JudgedLaws.{tick_does, tick-all, tick_later, last-refused, last-accepted}

module _ (room : ℕ) (at_edge : Bool) (classes : List ℕ) (tick : ℕ) where
  -- what is left is no longer than what waited
  pub opened_shorter : (ws : List Packet) (levels : List LevelModel) (ls : List (List Packet)) →
      length (opened room at_edge classes tick ws levels ls).waits ≤ length ws
  opened_shorter ws levels ls =
      let does = gate_laws.regulates room at_edge classes tick ws levels ls in
      let all = sym (length-append does.passed (opened room at_edge classes tick ws levels ls).waits) ∙ ap length does.order in
      omega arith

  -- behind a first that may not pass all wait
  stuck : (ws zs : List Packet) (levels : List LevelModel) (ls : List (List Packet)) → 0 < length ws →
      ((p : Packet) → head_of ws ≡ Some p → may_go room classes tick p levels ls ≡ false) →
      (opened room at_edge classes tick (ws ++ zs) levels ls).waits ≡ ws ++ zs
  unfolding opened
  stuck [] zs levels ls some held = absurd (omega arith)
  stuck (p ∷ ps) zs levels ls some held = let waits = held p refl in rw waits refl

  -- so where somebody still waits, all who come later wait too
  pub still_wait : (ws zs : List Packet) (levels : List LevelModel) (ls : List (List Packet)) →
      0 < length (opened room at_edge classes tick ws levels ls).waits →
      (opened room at_edge classes tick (ws ++ zs) levels ls).waits ≡ (opened room at_edge classes tick ws levels ls).waits ++ zs
  still_wait ws zs levels ls some =
      let o : Opened = opened room at_edge classes tick ws levels ls in
      ap (λ (x : Opened). x.waits) (opened-append room at_edge classes tick ws zs levels ls o refl)
      ∙ stuck o.waits zs o.levels o.queues some (gate_laws.regulates room at_edge classes tick ws levels ls).held

  -- one who may pass, and before whom nobody waits
  passes : (p : Packet) (levels : List LevelModel) (ls : List (List Packet)) → may_go room classes tick p levels ls ≡ true →
      (opened room at_edge classes tick (p ∷ []) levels ls).waits ≡ []
  unfolding opened
  passes p levels ls may = rw may refl

  -- those who may, one after the other, all pass
  pub at-once : (ps : List Packet) (levels : List LevelModel) (ls : List (List Packet)) → AllMay room at_edge classes tick ps levels ls →
      opened room at_edge classes tick ps levels ls ≡
      record { waits = []; levels = spent_by_all tick ps levels; queues = queued_by_all at_edge classes tick ps ls }
  at-once ps levels ls may =
      let all : Opened = record { waits = []; levels = spent_by_all tick ps levels; queues = queued_by_all at_edge classes tick ps ls } in
      let does : Regulates room at_edge classes tick ps levels ls all =
      record { passed = ps; order = append-nil ps; allowed = may; spent = refl; queued = refl; held = λ p some. cc } in
      sym (gate_laws.only room at_edge classes tick ps levels ls all does)

module _ (room : ℕ) (classes : List ℕ) (tick : ℕ) (levels : List LevelModel) (ls : List (List Packet)) where
  abbrev accepts : List Packet → Packet → Bool
  accepts = edge_accepts room classes tick levels ls

  abbrev left : List Packet → List Packet
  left ws = (opened room true classes tick ws levels ls).waits

  -- one more, and at most one more waits
  one_longer : (ws : List Packet) (p : Packet) → length (left (ws ++ p ∷ [])) ≤ length (left ws) + 1
  one_longer ws p =
      let o : Opened = opened room true classes tick ws levels ls in
      let same = ap (λ (x : Opened). length x.waits) (opened-append room true classes tick ws (p ∷ []) levels ls o refl) in
      let short = opened_shorter room true classes tick (o.waits ++ p ∷ []) o.levels o.queues in
      let all = length-append o.waits (p ∷ []) in
      omega arith

  pub few_left : (coming : List Coming) (ws : List Packet) → length (left ws) ≤ 64 → length (left (judged accepts ws coming).waits) ≤ 64
  unfolding judged
  few_left [] ws few = few
  few_left (c ∷ coming) ws few =
      elim (cases_Bool (accepts ws c.packet)) [
        | inl taken ↦
            let less : length (left ws) < 64 = ltb-true (length (left ws)) 64 taken in
            let more = one_longer ws c.packet in
            rw taken (few_left coming (ws ++ c.packet ∷ []) (omega arith))
        | inr refused ↦ rw refused (few_left coming ws few)
      ]

  pub nobody_refused : (coming : List Coming) (ws : List Packet) → length (left (ws ++ packets_of coming)) ≤ 64 → (judged accepts ws coming).refused ≡ []
  unfolding judged
  nobody_refused [] ws few = refl
  nobody_refused (c ∷ coming) ws few =
      elim (cases_lt (length (left ws)) 64) [
        | inl less ↦
            let taken : accepts ws c.packet ≡ true = lt-ltb (length (left ws)) 64 less in
            let along : length (left ((ws ++ c.packet ∷ []) ++ packets_of coming)) ≤ 64 =
            subst (λ xs. length (left xs) ≤ 64) (sym (append_assoc ws (c.packet ∷ []) (packets_of coming))) few in
            rw taken (nobody_refused coming (ws ++ c.packet ∷ []) along)
        | inr many ↦
            let some : 0 < length (left ws) = omega arith in
            let all = ap length (still_wait room true classes tick ws (c.packet ∷ packets_of coming) levels ls some)
            ∙ length-append (left ws) (c.packet ∷ packets_of coming) in
            absurd (omega arith)
      ]

pub edge_exact : (room : ℕ) (classes : List ℕ) (tick : ℕ) (ws : List Packet) (levels : List LevelModel) (ls : List (List Packet)) →
    EdgeExact room classes tick ws levels ls
edge_exact room classes tick ws levels ls =
    let takes : List Packet → Packet → Bool = edge_accepts room classes tick levels ls in
    record {
      full = λ before c many.
          last-refused takes room true classes tick ws levels ls before c (le-ltb _ 64 many);
      free = λ before c few.
          ap (λ (t : GateTick). t.refused) (last-accepted takes room true classes tick ws levels ls before c (lt-ltb _ 64 few));
      at_once = λ before c none may.
          let few : length (edge_tick room classes tick ws levels ls before).opened.waits < 64 = rw none (omega arith) in
          let is = last-accepted takes room true classes tick ws levels ls before c (lt-ltb _ 64 few) in
          let o : Opened = (edge_tick room classes tick ws levels ls before).opened in (
            ap (λ (t : GateTick). t.refused) is,
            ap (λ (t : GateTick). t.opened.waits) is
                ∙ ap (λ (x : Opened). x.waits) (opened-append room true classes tick (judged takes ws before).waits (c.packet ∷ []) levels ls o refl)
                ∙ ap (λ ws. (opened room true classes tick (ws ++ c.packet ∷ []) o.levels o.queues).waits) none
                ∙ passes room true classes tick c.packet o.levels o.queues may,
          );
      nobody = λ coming few. tick-all takes room true classes tick ws levels ls coming (nobody_refused room classes tick levels ls coming ws few);
      all_at_once = λ coming none may.
          let all = at-once room true classes tick (packets_of coming) levels ls may in
          let same : opened room true classes tick (ws ++ packets_of coming) levels ls ≡ opened room true classes tick (packets_of coming) levels ls =
          ap (λ xs. opened room true classes tick (xs ++ packets_of coming) levels ls) none in
          let few : length (opened room true classes tick (ws ++ packets_of coming) levels ls).waits ≤ 64 =
          subst (λ (o : Opened). length o.waits ≤ 64) (sym (same ∙ all)) (omega arith) in
          tick-all takes room true classes tick ws levels ls coming (nobody_refused room classes tick levels ls coming ws few)
          ∙ ap (λ (o : Opened). let t : GateTick = record { refused = []; opened = o } in t) (same ∙ all);
      few = λ coming short.
          few_left room classes tick levels ls coming ws (let less = opened_shorter room true classes tick ws levels ls in omega arith);
    }

edge_worked : EdgeWorked
unfolding judged opened sum_over
edge_worked = (refl, refl)

pub edge_laws : EdgeLaws
edge_laws =
    record {
      does = λ room classes tick ws levels ls. tick_does (edge_accepts room classes tick levels ls) room true classes tick ws levels ls;
      later = λ room classes tick ws levels ls. tick_later (edge_accepts room classes tick levels ls) room true classes tick ws levels ls;
      exact = edge_exact;
      worked = edge_worked;
    }
