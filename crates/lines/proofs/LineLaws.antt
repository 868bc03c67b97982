-- Laws of lines: nothing that waits is lost, doubled or reordered. Assumes nothing.
use Rattle.std.proofs.Common.{◌≡◌, ℕ, zero, suc, ◌+◌, ◌-◌, ◌<◌, ◌≤◌, List, [], ◌∷◌, ◌++◌, map, length, drop, set, replicate, sym, refl, ap, ◌∙◌, subst, inl, inr, arith}
use lib.Seq.{drop-nil}
use Rattle.std.proofs.lemmas.List.{append-nil, append_assoc}
use Rattle.std.proofs.lemmas.Bool.{cases_lt}
use Rattle.lines.specs.Lines.{waiting, head_of, tail_of, empty_line, end_place, longer, shorter}
use Rattle.lines.specs.Laws.{
  Queue,
  queued,
  Sound,
  Step,
  comes,
  goes,
  after,
  entered,
  as_list,
  left,
  after_all,
  all_entered,
  all_left,
  NothingLost,
  EmptyWaits,
  AllWait,
  RestThenNew,
  LineLaws,
}
use Rattle.lines.proofs.Meanings.{room, no_room, some-wait, none-wait, longer_means, shorter_means}

head_tail : {X : Type 0} (xs : List X) → as_list (head_of xs) ++ tail_of xs ≡ xs
head_tail [] = refl
head_tail (x ∷ xs) = refl

drop_tail : {X : Type 0} (n : ℕ) (xs : List X) → drop n (tail_of xs) ≡ drop (suc n) xs
drop_tail n [] = drop-nil n
drop_tail n (x ∷ xs) = refl

module _ {X : Type 0} where
  -- what a step keeps
  pub record Kept (q : Queue X) (step : Step X) : Type 0 where
    pub sound : Sound (after q step)
    pub order : left q step ++ queued (after q step) ≡ queued q ++ entered q step

  step_keeps : (q : Queue X) (step : Step X) → Sound q → Kept q step
  step_keeps q (comes value) sound =
      elim (cases_lt q.line.count (length q.cells)) [
        | inl less ↦
            let means = longer_means q.cells q.line sound value less in
            let has = room q.cells q.line sound less in
            record { sound = rw has means.fits; order = rw has means.order }
        | inr all ↦
            let has = no_room q.cells q.line sound all in
            record { sound = rw has sound; order = rw has (sym (append-nil (queued q))) }
      ]
  step_keeps q goes sound =
      elim (cases_lt 0 q.line.count) [
        | inl some ↦
            let means = shorter_means q.cells q.line sound some in
            let has = some-wait q.cells q.line sound some in
            record {
              sound = rw has means.fits;
              order =
                  rw has (
                  ap (λ w. as_list (head_of (queued q)) ++ w) means.order ∙ head_tail (queued q) ∙ sym (append-nil (queued q))
                  );
            }
        | inr none ↦
            let has = none-wait q.cells q.line sound none in
            record { sound = rw has sound; order = rw has (sym (append-nil (queued q))) }
      ]

  nothing-lost : NothingLost X
  nothing-lost q [] sound = sym (append-nil (queued q))
  nothing-lost q (step ∷ steps) sound =
      let kept = step_keeps q step sound in
      let rest = nothing-lost (after q step) steps kept.sound in
      append_assoc (left q step) (all_left (after q step) steps) (queued (after_all (after q step) steps)) ∙
      ap (λ w. left q step ++ w) rest ∙
      sym (append_assoc (left q step) (queued (after q step)) (all_entered (after q step) steps)) ∙
      ap (λ w. w ++ all_entered (after q step) steps) kept.order ∙
      append_assoc (queued q) (entered q step) (all_entered (after q step) steps)

  -- values that come where there is room wait after those who wait
  pushes_follow : (q : Queue X) (values : List X) → Sound q → q.line.count + length values ≤ length q.cells →
      queued (after_all q (map comes values)) ≡ queued q ++ values
  pushes_follow q [] sound fits = sym (append-nil (queued q))
  pushes_follow q (value ∷ values) sound fits =
      let less : q.line.count < length q.cells = omega arith in
      let means = longer_means q.cells q.line sound value less in
      let has = room q.cells q.line sound less in
      let next : Queue X = record { cells = set q.cells (end_place (length q.cells) q.line) value; line = longer q.line } in
      let is : after q (comes value) ≡ next = rw has refl in
      ap (λ r. queued (after_all r (map comes values))) is ∙
      pushes_follow next values means.fits (omega (arith, means.cells)) ∙
      ap (λ w. w ++ values) means.order ∙
      append_assoc (queued q) (value ∷ []) values

  -- and those who go leave the rest
  pub record Left (q : Queue X) (gone : ℕ) (r : Queue X) : Type 0 where
    pub sound : Sound r
    pub order : queued r ≡ drop gone (queued q)
    pub count : r.line.count ≡ q.line.count - gone
    pub cells : length r.cells ≡ length q.cells

  drops_leave : (q : Queue X) (gone : ℕ) → Sound q → Left q gone (after_all q (replicate gone goes))
  drops_leave q zero sound = record { sound = sound; order = refl; count = omega arith; cells = refl }
  drops_leave q (suc gone) sound =
      elim (cases_lt 0 q.line.count) [
        | inl some ↦
            let means = shorter_means q.cells q.line sound some in
            let has = some-wait q.cells q.line sound some in
            let next : Queue X = record { cells = q.cells; line = shorter (length q.cells) q.line } in
            let is : after q goes ≡ next = rw has refl in
            let rest = drops_leave next gone means.fits in
            subst (λ r. Left q (suc gone) (after_all r (replicate gone goes))) (sym is) (
            record {
              sound = rest.sound;
              order = rest.order ∙ ap (drop gone) means.order ∙ drop_tail gone (queued q);
              count = omega arith;
              cells = rest.cells;
            }
            )
        | inr none ↦
            let has = none-wait q.cells q.line sound none in
            let zeroes : q.line.count ≡ 0 = omega arith in
            let nobody : queued q ≡ [] = ap (waiting q.cells q.line.first) zeroes in
            let is : after q goes ≡ q = rw has refl in
            let rest = drops_leave q gone sound in
            subst (λ r. Left q (suc gone) (after_all r (replicate gone goes))) (sym is) (
            record {
              sound = rest.sound;
              order = rest.order ∙ ap (drop gone) nobody ∙ drop-nil gone ∙ sym (ap (drop (suc gone)) nobody);
              count = omega arith;
              cells = rest.cells;
            }
            )
      ]

  after_both : (q : Queue X) (steps more : List (Step X)) → after_all q (steps ++ more) ≡ after_all (after_all q steps) more
  after_both q [] more = refl
  after_both q (step ∷ steps) more = after_both (after q step) steps more

  rest_then_new : RestThenNew X
  rest_then_new q gone values sound fits =
      let leave = drops_leave q gone sound in
      ap queued (after_both q (replicate gone goes) (map comes values)) ∙
      pushes_follow (after_all q (replicate gone goes)) values leave.sound (omega arith) ∙
      ap (λ w. w ++ values) leave.order

  all_wait : AllWait X
  all_wait cells [] fits = refl
  all_wait cells (value ∷ values) fits =
      pushes_follow (record { cells = cells; line = empty_line }) (value ∷ values) (omega arith, omega arith) (omega arith)

  empty-waits : EmptyWaits X
  empty-waits cells = refl

pub line_laws : (X : Type 0) → LineLaws X
line_laws X = record { lost = nothing-lost; empty = empty-waits; pushes = all_wait; rest = rest_then_new; worked = (refl, refl) }
