use Rattle.std.proofs.Common.{◌≡◌, ℕ, List, [], ◌<◌, length, ◌++◌, string_bytes, sym, ap, ◌∙◌, append-nil, arith}
use Rattle.record_bytes.proofs.Row.{next-shorter}
use Rattle.record_bytes.specs.Row.{row}
use Rattle.admission.specs.Plans.{plan_of}
use Rattle.script.specs.Models.{standing}
use Rattle.script.specs.declared.line.Line.{Line}
use Rattle.script.specs.Session.{closing}
use Rattle.printing.specs.Output.{printed_if_said, printed_all, output_from}
use Rattle.printing.specs.Parts.{to_come}
use Rattle.printing.proofs.OutputLaws.{print_next, print_end}
use Rattle.printing.proofs.printout.Printout.next_part.Goals.{In_ok-add_line, In_ok-line, in-Some-closing+in_ok-add_lines, in_default-closing}
use Rattle.printing.proofs.printout.Printout.next_part.Goals as goal

-- once a record is taken, and its line is added if it has one, what is left of the text comes from the records behind it
added : (c : In_ok-line) (text : List ℕ) → text ≡ string_bytes c.loop-piece.text ++ printed_if_said (plan_of c.loop-piece.self.plan) c.in_ok-line.field-0 →
    text ++ output_from (plan_of c.loop-piece.self.plan) (standing c.take.new.self) (row c.next.new.self.rest.now) ≡ to_come c.args.self
added c text is =
    print_next (plan_of c.loop-piece.self.plan) (string_bytes c.loop-piece.text) text _ (standing c.loop-piece.self.session) (c.in_ok-line.field-0, standing c.take.new.self) _ _ _
    c.in-Some.ensures.steps.value c.in_ok-line.ensures.value is c.loop-piece.invariant.0

line_added : (c : In_ok-add_line) →
    string_bytes c.add_line.new.text ≡ string_bytes c.loop-piece.text ++ printed_if_said (plan_of c.loop-piece.self.plan) c.in_ok-line.field-0
line_added c = c.in_ok-add_line.ensures ∙ ap (λ o. string_bytes c.loop-piece.text ++ printed_if_said (plan_of c.loop-piece.self.plan) o) (sym c.in-Some-2.is)

record_taken : (c : In_ok-line) → length c.next.new.self.rest.now < length c.args.self.records.rest.now
record_taken c =
    let less = next-shorter c.loop-piece.self.records.rest.now _ _ (sym c.in-Some.ensures.steps.value) in
    omega (arith, less, c.loop-piece.invariant.1)

pub returns-then-len-ge-PART_BYTES-clause-text : goal.returns-then-len-ge-PART_BYTES-clause-text
returns-then-len-ge-PART_BYTES-clause-text c =
    let at = goal.at.returns-then-len-ge-PART_BYTES-clause-text c in
    search (added at.In_ok-line (string_bytes c.add_line.new.text) (line_added at.In_ok-add_line))

pub returns-then-len-ge-PART_BYTES-clause-fewer : goal.returns-then-len-ge-PART_BYTES-clause-fewer
returns-then-len-ge-PART_BYTES-clause-fewer c = record_taken (goal.at.returns-then-len-ge-PART_BYTES-clause-fewer c).In_ok-line

pub loop-piece-smaller : goal.loop-piece-smaller
loop-piece-smaller c = next-shorter _ _ _ (sym c.in-Some.ensures.steps.value)

pub loop-piece-preserved-in_default-2 : goal.loop-piece-preserved-in_default-2
loop-piece-preserved-in_default-2 c =
    let at = goal.at.loop-piece-preserved-in_default-2 c in
    let text = string_bytes c.loop-piece.text in
    let less = record_taken at.In_ok-line in (
      added at.In_ok-line text (sym (append-nil text) ∙ ap (λ o. text ++ printed_if_said (plan_of c.loop-piece.self.plan) o) (sym c.in_default-2.is)),
      omega (arith, less),
    )

pub loop-piece-preserved : goal.loop-piece-preserved
loop-piece-preserved c =
    let at = goal.at.loop-piece-preserved c in
    let less = record_taken at.In_ok-line in
    (added at.In_ok-line _ (line_added at.In_ok-add_line), omega (arith, less))

pub returns-clause-text : goal.returns-clause-text
unfolding printed_all
returns-clause-text c =
    let text = string_bytes c.loop-piece.text in
    let ended : (said : List Line) (after : List ℕ) → said ≡ closing (standing c.loop-piece.self.session) →
    after ≡ text ++ printed_all (plan_of c.loop-piece.self.plan) said → after ≡ to_come c.args.self =
    λ said after is all. print_end (plan_of c.loop-piece.self.plan) text after _ (standing c.loop-piece.self.session) _ said c.in_default.ensures.steps.value is all c.loop-piece.invariant.0 in
    elim c.match-closing.branch [
      | in-Some-closing+in_ok-add_lines w ↦ ap string_bytes w.text-is ∙ ended _ _ w.in-Some-closing.ensures w.in_ok-add_lines.ensures
      | in_default-closing w ↦ ap string_bytes w.text-is ∙ ended [] _ (sym w.in_default-closing.ensures) (sym (append-nil text))
    ]
