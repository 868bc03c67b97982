use Rattle.std.proofs.Common.{◌≡◌, ◌++◌, string_bytes, ap, ◌∙◌, append_assoc}
use Rattle.printing.specs.Parts.{still_to_come}
use Rattle.printing.proofs.OutputLaws.{told_after}
use Rattle.printing.proofs.print.all_parts.Goals as goal

pub loop-next-preserved : goal.loop-next-preserved
loop-next-preserved c =
    let text = string_bytes c.loop-next.text in
    let rest = c.in_ok-part.part.rest in
    let part = string_bytes c.in_ok-part.part.text in
    let added : string_bytes c.push_str.new.self ≡ text ++ part =
    c.in_ok-push_str.ensures.bytes ∙ ap (λ xs. text ++ xs) c.as_str.ensures.value in
    ap (λ xs. xs ++ still_to_come rest) added ∙ append_assoc text part (still_to_come rest)
    ∙ told_after text part _ rest _ _ c.in-Some.is c.in_ok-part.ensures.text c.loop-next.invariant
