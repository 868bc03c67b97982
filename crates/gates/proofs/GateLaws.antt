-- Laws of gates. Assumes nothing.
use Rattle.std.proofs.Common.{◌≡◌, ℕ, ◌<◌, Bool, true, false, ◌&&◌, List, [], ◌∷◌, ◌++◌, map, length, get_or, set, Some, sym, refl, ap, ◌∙◌, subst, inl, inr, arith}
use Rattle.std.proofs.lemmas.List.{get_or-set_same, get_or-set_other, length-set, append_assoc, append-nil}
use Rattle.std.proofs.lemmas.Bool.{cases_Bool, cases_eq, eq-eqb, ne_eqb, and_parts}
use Rattle.lines.specs.declared.packet.Packet.{Packet}
use Rattle.lines.specs.Lines.{head_of}
use Rattle.levels.specs.Levels.{LevelModel, at_tick, may_pass, spent}
use Rattle.levels.specs.Regular.{Pass}
use Rattle.levels.proofs.LevelLaws.{level_laws}
use Rattle.queues.specs.Lines.{sum_over}
use Rattle.gates.specs.Gates.{Opened, marked, no_level, level_of, class_of, known, has_cell, may_go, spent_by, queued_by, opened}
use Rattle.gates.specs.Laws.{AllMay, spent_by_all, queued_by_all, Regulates, of_class, of_flow, passing, RegularFlow, Worked, GateLaws}

module _ (room : ℕ) (at_edge : Bool) (classes : List ℕ) (tick : ℕ) where
  -- one more that may passes before them
  first_too : (p : Packet) (ps : List Packet) (levels : List LevelModel) (ls : List (List Packet)) (o : Opened) →
      may_go room classes tick p levels ls ≡ true →
      Regulates room at_edge classes tick ps (spent_by tick p levels) (queued_by at_edge classes tick p ls) o →
      Regulates room at_edge classes tick (p ∷ ps) levels ls o
  unfolding AllMay spent_by_all queued_by_all
  first_too p ps levels ls o may rest =
      record {
        passed = p ∷ rest.passed;
        order = ap (λ ws. p ∷ ws) rest.order;
        allowed = (may, rest.allowed);
        spent = rest.spent;
        queued = rest.queued;
        held = rest.held;
      }

  pub gate_regulates : (ws : List Packet) (levels : List LevelModel) (ls : List (List Packet)) →
      Regulates room at_edge classes tick ws levels ls (opened room at_edge classes tick ws levels ls)
  unfolding opened AllMay spent_by_all queued_by_all
  gate_regulates [] levels ls =
      record {
        passed = [];
        order = refl;
        allowed = tt;
        spent = refl;
        queued = refl;
        held = λ p some. cc;
      }
  gate_regulates (p ∷ ps) levels ls =
      elim (cases_Bool (may_go room classes tick p levels ls)) [
        | inl may ↦ rw may (first_too p ps levels ls _ may (gate_regulates ps (spent_by tick p levels) (queued_by at_edge classes tick p ls)))
        | inr not ↦
            rw not (record {
              passed = [];
              order = refl;
              allowed = tt;
              spent = refl;
              queued = refl;
              held = λ q some. let same : p ≡ q = cc in subst (λ x. may_go room classes tick x levels ls ≡ false) same not;
            })
      ]

  -- a gate whose first may not pass has been opened
  settled : (ws : List Packet) (levels : List LevelModel) (ls : List (List Packet)) →
      ((p : Packet) → head_of ws ≡ Some p → may_go room classes tick p levels ls ≡ false) →
      opened room at_edge classes tick ws levels ls ≡ record { waits = ws; levels = levels; queues = ls }
  unfolding opened
  settled [] levels ls held = refl
  settled (p ∷ ps) levels ls held = let not : may_go room classes tick p levels ls ≡ false = held p refl in rw not

  -- after those who passed, the rest is opened
  after-passed : (ps rest : List Packet) (levels : List LevelModel) (ls : List (List Packet)) → AllMay room at_edge classes tick ps levels ls →
      opened room at_edge classes tick (ps ++ rest) levels ls ≡
      opened room at_edge classes tick rest (spent_by_all tick ps levels) (queued_by_all at_edge classes tick ps ls)
  unfolding opened AllMay spent_by_all queued_by_all
  after-passed [] rest levels ls may = refl
  after-passed (p ∷ ps) rest levels ls may =
      let first : may_go room classes tick p levels ls ≡ true = may.0 in
      rw first (after-passed ps rest (spent_by tick p levels) (queued_by at_edge classes tick p ls) may.1)

  pub gate_only : (ws : List Packet) (levels : List LevelModel) (ls : List (List Packet)) (o : Opened) →
      Regulates room at_edge classes tick ws levels ls o → o ≡ opened room at_edge classes tick ws levels ls
  gate_only ws levels ls o does =
      sym (ap (λ x. opened room at_edge classes tick x levels ls) (sym does.order)
      ∙ after-passed does.passed o.waits levels ls does.allowed
      ∙ ap (λ lv. opened room at_edge classes tick o.waits lv (queued_by_all at_edge classes tick does.passed ls)) (sym does.spent)
      ∙ ap (opened room at_edge classes tick o.waits o.levels) (sym does.queued)
      ∙ settled o.waits o.levels o.queues does.held)

  pub gate_again : (ws : List Packet) (levels : List LevelModel) (ls : List (List Packet)) (o : Opened) →
      o ≡ opened room at_edge classes tick ws levels ls → opened room at_edge classes tick o.waits o.levels o.queues ≡ o
  gate_again ws levels ls o is =
      let does : Regulates room at_edge classes tick ws levels ls o = subst (Regulates room at_edge classes tick ws levels ls) (sym is) (gate_regulates ws levels ls) in
      settled o.waits o.levels o.queues does.held

module _ (at_edge : Bool) (classes : List ℕ) (tick : ℕ) where
  pub gate_behind : (ps : List Packet) (ls : List (List Packet)) (class : ℕ) → class < length ls →
      get_or (queued_by_all at_edge classes tick ps ls) class [] ≡ get_or ls class [] ++ map (marked at_edge tick) (of_class classes class ps)
  unfolding queued_by_all of_class
  gate_behind [] ls class within = sym (append-nil (get_or ls class []))
  gate_behind (p ∷ ps) ls class within =
      let more = gate_behind ps (queued_by at_edge classes tick p ls) class (simp length-set within) in
      elim (cases_eq (class_of classes p) class) [
        | inl is ↦
            let test = eq-eqb (class_of classes p) class is in
            let here : get_or (queued_by at_edge classes tick p ls) class [] ≡ get_or ls class [] ++ marked at_edge tick p ∷ [] =
            subst (λ c. get_or (set ls c (get_or ls c [] ++ marked at_edge tick p ∷ [])) class [] ≡ get_or ls class [] ++ marked at_edge tick p ∷ []) (sym is)
            (get_or-set_same ls class (get_or ls class [] ++ marked at_edge tick p ∷ []) [] within) in
            rw test (more ∙ ap (λ l. l ++ map (marked at_edge tick) (of_class classes class ps)) here ∙ append_assoc (get_or ls class []) (marked at_edge tick p ∷ []) _)
        | inr not ↦
            let test = ne_eqb (class_of classes p) class not in
            rw test (more ∙ ap (λ l. l ++ map (marked at_edge tick) (of_class classes class ps)) (get_or-set_other ls (class_of classes p) class _ [] (λ e. not (sym e))))
      ]

-- what passes of a flow
module _ (tick burst rate : ℕ) where
  -- one more that may
  passes_too : (p : Packet) (levels : List LevelModel) (history : List Pass) → may_pass (level_of levels p) tick p.length ≡ true →
      RegularFlow levels p.flow burst rate tick history →
      RegularFlow (spent_by tick p levels) p.flow burst rate tick (record { at = tick; len = p.length } ∷ history)
  passes_too p levels history may sofar =
      record {
        within = simp length-set sofar.within;
        level = get_or-set_same levels p.flow (spent (at_tick (level_of levels p) tick) p.length) no_level sofar.within
            ∙ ap (λ l. spent (at_tick l tick) p.length) sofar.level;
        order = (sofar.last, sofar.order);
        last = omega arith;
        regular = (level_laws.rows burst rate history tick p.length sofar.order sofar.last sofar.regular).0
            (subst (λ l. may_pass l tick p.length ≡ true) sofar.level may);
      }

  -- one more of another flow
  other_passes : (p : Packet) (levels : List LevelModel) (flow : ℕ) (history : List Pass) → (p.flow ≡ flow → ⊥) →
      RegularFlow levels flow burst rate tick history → RegularFlow (spent_by tick p levels) flow burst rate tick history
  other_passes p levels flow history not sofar =
      record {
        within = simp length-set sofar.within;
        level = get_or-set_other levels p.flow flow _ no_level (λ e. not (sym e)) ∙ sofar.level;
        order = sofar.order;
        last = sofar.last;
        regular = sofar.regular;
      }

  module _ (room : ℕ) (at_edge : Bool) (classes : List ℕ) where
    has_level : (p : Packet) (levels : List LevelModel) (ls : List (List Packet)) → may_go room classes tick p levels ls ≡ true →
        may_pass (level_of levels p) tick p.length ≡ true
    has_level p levels ls may =
        (and_parts (may_pass (level_of levels p) tick p.length) (has_cell room (class_of classes p) ls)
        (and_parts (known classes p levels) (may_pass (level_of levels p) tick p.length && has_cell room (class_of classes p) ls) may).1).0

    all_regular : (ps : List Packet) (levels : List LevelModel) (ls : List (List Packet)) (flow : ℕ) (history : List Pass) →
        AllMay room at_edge classes tick ps levels ls → RegularFlow levels flow burst rate tick history →
        RegularFlow (spent_by_all tick ps levels) flow burst rate tick (passing tick (of_flow flow ps) history)
    unfolding AllMay spent_by_all passing of_flow
    all_regular [] levels ls flow history may sofar = sofar
    all_regular (p ∷ ps) levels ls flow history may sofar =
        elim (cases_eq p.flow flow) [
          | inl is ↦
              let test = eq-eqb p.flow flow is in
              let here : RegularFlow (spent_by tick p levels) flow burst rate tick (record { at = tick; len = p.length } ∷ history) =
              subst (λ f. RegularFlow levels f burst rate tick history → RegularFlow (spent_by tick p levels) f burst rate tick (record { at = tick; len = p.length } ∷ history)) is
              (passes_too p levels history (has_level p levels ls may.0)) sofar in
              rw test (all_regular ps (spent_by tick p levels) (queued_by at_edge classes tick p ls) flow (record { at = tick; len = p.length } ∷ history) may.1 here)
          | inr not ↦
              let test = ne_eqb p.flow flow not in
              rw test (all_regular ps (spent_by tick p levels) (queued_by at_edge classes tick p ls) flow history may.1 (other_passes p levels flow history not sofar))
        ]

pub worked_at_five : Worked
unfolding opened sum_over
worked_at_five = record { waits = refl; levels = refl; queues = refl }

pub gate_laws : GateLaws
gate_laws =
    record {
      regulates = gate_regulates;
      only = gate_only;
      again = gate_again;
      behind = gate_behind;
      regular = λ room at_edge classes tick ws levels ls o does flow burst rate history sofar.
          subst (λ after. RegularFlow after flow burst rate tick (passing tick (of_flow flow does.passed) history)) (sym does.spent)
          (all_regular tick burst rate room at_edge classes does.passed levels ls flow history does.allowed sofar);
      worked = worked_at_five;
    }
