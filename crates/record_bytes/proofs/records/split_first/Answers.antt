use Rattle.std.proofs.Common.{refl, arith, ◌∙◌}
use Rattle.std.proofs.lemmas.List.{take_rest}
use Rattle.record_bytes.proofs.Row.{next-cut, next-whole}
use Rattle.record_bytes.proofs.records.split_first.Goals as goal

pub returns-in_default-clause-value : goal.returns-in_default-clause-value
returns-in_default-clause-value c =
    let xs = c.args.input.now in
    let size = c.into.ensures ∙ c.from_be_bytes.ensures in
    let few = rw take_rest at c.in_default.ensures.cases in
    next-cut xs _ _ c.in-len2-up.len_at_least (take_rest xs 2) refl (omega arith)

pub returns-clause-value : goal.returns-clause-value
returns-clause-value c =
    let size = c.into.ensures ∙ c.from_be_bytes.ensures in
    let cut = rw take_rest at c.in-Some.ensures.cases in
    next-whole c.args.input.now _ _ _ c.in-len2-up.len_at_least size cut.0 cut.1 cut.2
