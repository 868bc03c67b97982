use Rattle.std.proofs.Common.{◌++◌, string_bytes, sym, ◌∙◌, append-nil}
use Rattle.std.proofs.lemmas.List.{at_drop_more, at_drop_all}
use Rattle.script.specs.declared.line.Line.TheVariants.{Net}
use Rattle.admission.specs.Plans.{plan_of}
use Rattle.printing.specs.Output.{printed_all}
use Rattle.printing.proofs.OutputLaws.{print_line}
use Rattle.printing.proofs.print.add_lines.Goals as goal

pub loop-line-preserved : goal.loop-line-preserved
loop-line-preserved c =
    let text = string_bytes c.loop-line.text in
    let step = at_drop_more (λ ls. text ++ printed_all (plan_of c.args.plan.now) ls) c.args.lines.now c.loop-line.line-index (Net 0 0) c.loop-line-test.true in
    print_line (plan_of c.args.plan.now) text _ _ _ _ c.in_ok-add_line.ensures (sym step ∙ c.loop-line.invariant)

pub returns : goal.returns
unfolding printed_all
returns c =
    let text = string_bytes c.loop-line.text in
    sym (append-nil text) ∙ sym (at_drop_all (λ ls. text ++ printed_all (plan_of c.args.plan.now) ls) c.args.lines.now c.loop-line.line-index c.loop-line-test.false) ∙ c.loop-line.invariant
