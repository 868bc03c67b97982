use Rattle.std.proofs.Common.{◌++◌, vec_items, ap, arith, length-drop}
use Rattle.std.proofs.lemmas.Bool.Decides.{nat_tests}
use Rattle.std.proofs.lemmas.List.{take_rest}
use Rattle.cases.specs.Digits.{spelled}
use Rattle.cases.proofs.SpelledLaws.{spelled_on, spelled_all}
use Rattle.cases.proofs.from_digits.Goals as goal

pub loop-rest-init : goal.loop-rest-init
unfolding spelled
loop-rest-init c = ap (λ bs. spelled bs ++ c.args.digits.now) c.new-bytes.ensures.items

pub loop-rest-smaller : goal.loop-rest-smaller
loop-rest-smaller c =
    let rest = c.loop-rest.rest.now in
    rw (take_rest rest 2, length-drop 2 rest) (omega arith)

pub loop-rest-preserved : goal.loop-rest-preserved
loop-rest-preserved c =
    let rest = c.loop-rest.rest.now in
    let is = rw c.in_ok-context.ensures at c.byte_of.ensures in
    rw (take_rest rest 2, c.in_ok-push.ensures.items)
    (spelled_on (vec_items c.loop-rest.bytes) rest _ c.in_ok-context.field-0 c.in-len2-up.len_at_least is c.loop-rest.invariant)

pub returns : goal.returns
returns c = spelled_all _ c.loop-rest.rest.now _ (grind (arith, nat_tests)) c.loop-rest.invariant
