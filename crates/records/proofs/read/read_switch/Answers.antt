use Rattle.std.proofs.Common.{refl}
use Rattle.std.proofs.lemmas.Result.{err_from_is_err_and}
use Rattle.records.proofs.FormatLaws.{switch_of_number}
use Rattle.records.proofs.read.read_switch.Goals as goal

pub returns-in_err-number-clause-value : goal.returns-in_err-number-clause-value
returns-in_err-number-clause-value c =
    let p = err_from_is_err_and c.from_residual.result c.from_residual.ensures.1 in
    rw (p.1, p.2, switch_of_number, ← c.in_err-number.ensures) refl

pub returns-clause-value : goal.returns-clause-value
returns-clause-value c = rw (switch_of_number, ← c.in_ok-number.ensures) refl
