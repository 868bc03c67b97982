use Rattle.std.proofs.Common.{◌++◌, string_bytes, ◌∙◌, append_assoc, subst}
use Rattle.std.specs.Io.KnownBytes.{Appends}
use Rattle.std.proofs.KnownBytes.{Appends-trans}
use Rattle.printing.specs.Parts.{still_to_come}
use Rattle.printing.specs.Sent.{Begun}
use Rattle.printing.proofs.OutputLaws.{told_after}
use Rattle.printing.proofs.SentLaws.{begun_further}
use Rattle.printing.proofs.run.print_parts.Goals as goal

pub loop-next-preserved : goal.loop-next-preserved
loop-next-preserved g c =
    let (sent, is, appended) = c.loop-next.invariant in
    let part = string_bytes c.in_ok-part.part.text in
    let rest = c.in_ok-part.part.rest in
    let whole = told_after sent part _ rest _ _ c.in-Some.is c.in_ok-part.ensures.text is in (
      sent ++ part,
      append_assoc sent part (still_to_come rest) ∙ whole,
      Appends-trans _ _ _ _ _ appended (subst (Appends _ _) c.as_bytes.ensures.value c.in_ok-send.ensures.all),
    )

pub returns-in_err-send-clause-begun : goal.returns-in_err-send-clause-begun
returns-in_err-send-clause-begun g c =
    let (sent, is, appended) = c.loop-next.invariant in
    let part = string_bytes c.in_ok-part.part.text in
    let rest = c.in_ok-part.part.rest in
    let whole = told_after sent part _ rest _ _ c.in-Some.is c.in_ok-part.ensures.text is in
    begun_further _ _ _ _ sent part (still_to_come rest) whole appended (subst (Begun _ _) c.as_bytes.ensures.value c.in_err-send.ensures.begun)
