use Rattle.std.proofs.Common.{refl}
use Rattle.std.proofs.lemmas.Result.{err_from_is_err_and}
use Rattle.records.proofs.FormatLaws.{ticks_of_number}
use Rattle.records.proofs.read.read_ticks.Goals as goal

pub returns-in_err-count-clause-value : goal.returns-in_err-count-clause-value
returns-in_err-count-clause-value c =
    let p = err_from_is_err_and c.from_residual.result c.from_residual.ensures.1 in
    rw (p.1, p.2, ticks_of_number, ← c.in_err-count.ensures) refl

pub returns-clause-value : goal.returns-clause-value
returns-clause-value c = rw (ticks_of_number, ← c.in_ok-count.ensures) refl
