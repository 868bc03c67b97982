use Rattle.std.proofs.Common.{◌≡◌}
use Rattle.lines.specs.Ticks.{counted_drop}
use Rattle.lines.proofs.TickLaws.{drop_counts, drop-none}
use Rattle.lines.proofs.counted.Counted.drop_first.Goals as goal

pub returns-in_err-first : goal.returns-in_err-first
returns-in_err-first c =
    let answer : c.from_residual.result ≡ counted_drop c.args.cells.now c.args.self =
    rw c.from_residual.ensures (drop-none c.args.cells.now c.args.self c.in_err-first.ensures.value) in
    record { value = answer; means = drop_counts c.args.cells.now c.args.self c.from_residual.result answer }
