-- None overtakes another in a pipe, and a pipe is never stuck. Assumes nothing.
use Rattle.std.proofs.Common.{◌≡◌, ℕ, ◌*◌, ◌<◌, ◌⊎◌, List, [], ◌∷◌, ◌++◌, map, Some, None, Option, sym, refl, ap, ◌∙◌, subst, inl, inr, append_assoc, arith}
use Rattle.std.proofs.lemmas.List.{map-append}
use Rattle.std.proofs.lemmas.Bool.{cases_lt}
use Rattle.flows.specs.Flow.{FlowModel}
use Rattle.promises.specs.Promises.{den}
use Rattle.port.specs.Port.{flow_at}
use Rattle.pipe.specs.Pipe.{Packet, PipeModel, MayPass, MayTick, enters, comes, passes, ticks, begins, goes, arrived, lack_with, entrant, entry, through, line_of, enters_of}
use Rattle.pipe.specs.Laws.{NobodyOvertakes, NeverStuck}

-- that a packet has come does not change what it was
entries_come : (front : List Packet) (t : ℕ) (w : Packet) (back : List Packet) →
    map entry (front ++ arrived t w ∷ back) ≡ map entry (front ++ w ∷ back)
entries_come front t w back = map-append entry front (arrived t w ∷ back) ∙ sym (map-append entry front (w ∷ back))

pub nobody_overtakes : NobodyOvertakes
unfolding through enters_of
nobody_overtakes fs s begins = refl
nobody_overtakes fs s (goes {s = r} run (enters k len may after)) =
    let w : Packet = entrant fs r k len in
    ap (λ x. line_of x) after
    ∙ ap (λ es. through r.passed ++ es) (map-append entry r.pipe (w ∷ []))
    ∙ sym (append_assoc (through r.passed) (map entry r.pipe) (entry w ∷ []))
    ∙ ap (λ es. es ++ entry w ∷ []) (nobody_overtakes fs r run)
nobody_overtakes fs s (goes {s = r} run (comes front w back may after)) =
    ap (λ x. line_of x) after
    ∙ ap (λ es. through r.passed ++ es) (entries_come front r.now w back ∙ ap (λ ws. map entry ws) (sym may.stands))
    ∙ nobody_overtakes fs r run
nobody_overtakes fs s (goes {s = r} run (passes w rest came may after)) =
    ap (λ x. line_of x) after
    ∙ append_assoc (through r.passed) (entry w ∷ []) (map entry rest)
    ∙ ap (λ ws. through r.passed ++ map entry ws) (sym may.first)
    ∙ nobody_overtakes fs r run
nobody_overtakes fs s (goes {s = r} run (ticks may after)) = ap (λ x. line_of x) after ∙ nobody_overtakes fs r run

module _ (fs : List FlowModel) (s : PipeModel) where
  -- a tick may end where the pipe is empty, its first has not come, or its first may not pass
  none-ticks : s.pipe ≡ [] → MayTick fs s
  none-ticks is = λ w rest t may. let first = may.first in cc

  pub away-ticks : (v : Packet) (vs : List Packet) → s.pipe ≡ v ∷ vs → v.came ≡ None → MayTick fs s
  away-ticks v vs is away =
      λ w rest t may.
      let first = may.first in
      let come = may.come in
      let same : v ≡ w = cc in
      let too : w.came ≡ None = subst (λ x. x.came ≡ None) same away in
      cc

  pub held-ticks : (v : Packet) (vs : List Packet) → s.pipe ≡ v ∷ vs →
      den * (flow_at fs v.flow).burst < lack_with fs s.next s.now v.flow v.len → MayTick fs s
  held-ticks v vs is over =
      λ w rest t may.
      let first = may.first in
      let same : v ≡ w = cc in
      let too = subst (λ x. den * (flow_at fs x.flow).burst < lack_with fs s.next s.now x.flow x.len) same over in
      absurd (omega (arith, too, may.regular))

pub never_stuck : NeverStuck
never_stuck fs s = by s.pipe refl
  where
    on : (w : Packet) (rest : List Packet) (o : Option ℕ) → s.pipe ≡ w ∷ rest → w.came ≡ o →
        MayTick fs s ⊎ ((w : Packet) × (rest : List Packet) × (t : ℕ) × MayPass fs s w rest t)
    on w rest None is away = inl (away-ticks fs s w rest is away)
    on w rest (Some t) is come =
        elim (cases_lt (den * (flow_at fs w.flow).burst) (lack_with fs s.next s.now w.flow w.len)) [
          | inl over ↦ inl (held-ticks fs s w rest is over)
          | inr fits ↦ inr (w, rest, t, record { first = is; come = come; regular = fits })
        ]

    by : (ws : List Packet) → s.pipe ≡ ws → MayTick fs s ⊎ ((w : Packet) × (rest : List Packet) × (t : ℕ) × MayPass fs s w rest t)
    by [] is = inl (none-ticks fs s is)
    by (w ∷ rest) is = on w rest w.came is refl
