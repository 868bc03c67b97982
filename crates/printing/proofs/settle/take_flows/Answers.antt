use Rattle.std.proofs.Common.{◌≡◌, sym, ap, ◌∙◌, rules}
use Rattle.record_bytes.proofs.Row.{next-shorter}
use Rattle.record_bytes.specs.Row.{row}
use Rattle.records.specs.declared.stage.Stage.TheVariants.{Running}
use Rattle.script.specs.Models.{standing}
use Rattle.script.specs.Session.{Standing, after_all}
use Rattle.printing.proofs.OutputLaws.{all_next, all_end}
use Rattle.printing.proofs.settle.take_flows.Goals.{In_ok-take}
use Rattle.printing.proofs.settle.take_flows.Goals as goal

pub loop-piece-smaller : goal.loop-piece-smaller
loop-piece-smaller c = next-shorter _ _ _ (sym c.in-Some.ensures.steps.value)

-- once a record is taken, what comes of all the rest stays the same
record_taken : (c : In_ok-take) →
    after_all (standing c.take.new.self) (row c.next.new.self.rest.now) ≡ after_all (standing c.args.session) (row c.args.records.rest.now)
record_taken c =
    all_next (standing c.loop-piece.session) (c.in_ok-take.field-0, standing c.take.new.self) _ _ _ _
    c.in-Some.ensures.steps.value c.in_ok-take.ensures.value c.loop-piece.invariant

pub loop-piece-preserved : goal.loop-piece-preserved
loop-piece-preserved c = record_taken (goal.at.loop-piece-preserved c).In_ok-take

pub returns-then-eq : goal.returns-then-eq
returns-then-eq c =
    let running : c.take.new.self.stage ≡ Running = search rules in
    let settled = c.in_ok-take.ensures.laws.3 in
    sym (settled (standing c.take.new.self) (row c.next.new.self.rest.now) running) ∙ ap (λ (s : Standing). s.plan) (record_taken (goal.at.returns-then-eq c).In_ok-take)

pub returns : goal.returns
returns c =
    ap (λ (s : Standing). s.plan) (all_end (standing c.loop-piece.session) _ _ c.in_default.ensures.steps.value c.loop-piece.invariant)
