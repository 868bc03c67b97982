use Rattle.std.proofs.Common.{◌∙◌}
use Rattle.regulators.proofs.WaitLaws.{rest-left}
use Rattle.regulators.proofs.inside.left_of.Goals as goal

pub loop-left-preserved : goal.loop-left-preserved
loop-left-preserved c fits counts =
    let inv = c.loop-left.invariant fits counts in
    let means = c.in-Some.ensures.means inv.0 inv.1 in
    (means.0.fits, means.1, rest-left c.args.cells.now c.loop-left.left.line c.in-Some.rest.line c.args.count inv.0 means.0 c.loop-left-test.true ∙ inv.2)
