-- Inside one is refused exactly where more ticks would wait than are set aside. Assumes nothing.
use Rattle.std.proofs.Common.{◌≡◌, ℕ, ◌+◌, ◌<◌, ◌≤◌, Bool, true, false, List, [], ◌∷◌, ◌++◌, length, nat_le, refl, sym, ap, ◌∙◌, inl, inr, arith}
use Rattle.std.proofs.lemmas.Bool.{cases_Bool, le-leb, lt-leb, leb-true, and_from, and_left, and_parts}
use Rattle.lines.specs.declared.packet.Packet.{Packet}
use Rattle.lines.specs.Ticks.{ticks_of}
use Rattle.levels.specs.Levels.{LevelModel}
use Rattle.queues.specs.Lines.{sum_over}
use Rattle.gates.specs.Gates.{opened}
use Rattle.gates.proofs.GateLaws.{gate_laws}
use Rattle.regulators.specs.declared.coming.Coming.{Coming}
use Rattle.regulators.specs.Judged.{judged, inner_accepts, GateTick}
use Rattle.regulators.specs.Laws.{packets_of, Long, InnerExact, InnerWorked, InnerLaws}
use Rattle.regulators.proofs.JudgedLaws.{each-append, judged_each, tick_does, tick-all, tick_later, last-refused, last-accepted}

pub ticks-append : (ps qs : List Packet) → ticks_of (ps ++ qs) ≡ ticks_of ps + ticks_of qs
ticks-append [] qs = omega arith
ticks-append (p ∷ ps) qs = let more = ticks-append ps qs in omega arith

-- no more packets than ticks
many_ticks : (ps : List Packet) → Long ps → length ps ≤ ticks_of ps
many_ticks [] long = omega arith
many_ticks (p ∷ ps) long = let more = many_ticks ps long.1 in let one = long.0 in omega arith

-- what is left is no more than what waited
opened_fewer : (room : ℕ) (at_edge : Bool) (classes : List ℕ) (tick : ℕ) (ws : List Packet) (levels : List LevelModel) (ls : List (List Packet)) →
    ticks_of (opened room at_edge classes tick ws levels ls).waits ≤ ticks_of ws
opened_fewer room at_edge classes tick ws levels ls =
    let does = gate_laws.regulates room at_edge classes tick ws levels ls in
    let all = sym (ticks-append does.passed (opened room at_edge classes tick ws levels ls).waits) ∙ ap ticks_of does.order in
    omega arith

module _ (aside : ℕ) where
  above : (ws : List Packet) (p : Packet) → aside < ticks_of ws + p.length → inner_accepts aside ws p ≡ false
  above ws p more = and_left _ _ (lt-leb (ticks_of ws + p.length) aside more)

  fits : (ws : List Packet) (p : Packet) → Long ws → ticks_of ws + p.length ≤ aside → inner_accepts aside ws p ≡ true
  fits ws p long all =
      let few = many_ticks ws long in
      and_from _ _ (le-leb (ticks_of ws + p.length) aside all) (le-leb (length ws) aside (omega arith))

  within : (ws : List Packet) (p : Packet) → inner_accepts aside ws p ≡ true → ticks_of (ws ++ p ∷ []) ≤ aside
  within ws p taken =
      let parts = and_parts (nat_le (ticks_of ws + p.length) aside) (nat_le (length ws) aside) taken in
      let low = leb-true (ticks_of ws + p.length) aside parts.0 in
      let all = ticks-append ws (p ∷ []) in
      omega arith

  -- what is accepted behind the others
  judged_kept : (coming : List Coming) (ws : List Packet) → ticks_of ws ≤ aside → ticks_of (judged (inner_accepts aside) ws coming).waits ≤ aside
  unfolding judged
  judged_kept [] ws kept = kept
  judged_kept (c ∷ coming) ws kept =
      elim (cases_Bool (inner_accepts aside ws c.packet)) [
        | inl taken ↦ rw taken (judged_kept coming (ws ++ c.packet ∷ []) (within ws c.packet taken))
        | inr refused ↦ rw refused (judged_kept coming ws kept)
      ]

  nobody_refused : (coming : List Coming) (ws : List Packet) → Long ws → Long (packets_of coming) → ticks_of ws + ticks_of (packets_of coming) ≤ aside →
      (judged (inner_accepts aside) ws coming).refused ≡ []
  unfolding judged
  nobody_refused [] ws long coming-long all = refl
  nobody_refused (c ∷ coming) ws long coming-long all =
      let taken : inner_accepts aside ws c.packet ≡ true = fits ws c.packet long (omega arith) in
      let more = ticks-append ws (c.packet ∷ []) in
      rw taken (nobody_refused coming (ws ++ c.packet ∷ []) (each-append (λ p. 1 ≤ p.length) ws (c.packet ∷ []) long (coming-long.0, tt)) coming-long.1 (omega arith))

pub inner_exact : (aside room : ℕ) (classes : List ℕ) (tick : ℕ) (ws : List Packet) (levels : List LevelModel) (ls : List (List Packet)) →
    InnerExact aside room classes tick ws levels ls
inner_exact aside room classes tick ws levels ls =
    let takes : List Packet → Packet → Bool = inner_accepts aside in
    record {
      full = λ before c more.
          last-refused takes room false classes tick ws levels ls before c (above aside (judged takes ws before).waits c.packet more);
      free = λ before c long before-long all.
          ap (λ (t : GateTick). t.refused)
          (last-accepted takes room false classes tick ws levels ls before c
          (fits aside (judged takes ws before).waits c.packet (judged_each takes (λ p. 1 ≤ p.length) before ws long before-long) all));
      nobody = λ coming long coming-long all.
          tick-all takes room false classes tick ws levels ls coming (nobody_refused aside coming ws long coming-long all);
      kept = λ coming low.
          let kept = judged_kept aside coming ws low in
          let fewer = opened_fewer room false classes tick (judged takes ws coming).waits levels ls in
          (kept, omega arith);
    }

inner_worked : InnerWorked
unfolding judged opened sum_over
inner_worked = (refl, refl)

pub inner_laws : InnerLaws
inner_laws =
    record {
      does = λ aside room classes tick ws levels ls. tick_does (inner_accepts aside) room false classes tick ws levels ls;
      later = λ aside room classes tick ws levels ls. tick_later (inner_accepts aside) room false classes tick ws levels ls;
      exact = inner_exact;
      worked = inner_worked;
    }
