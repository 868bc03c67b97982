use Rattle.std.proofs.Common.{◌<◌, ◌⊎◌, rules}
use Rattle.record_bytes.proofs.Taking.{ranged_missing, ranged_inside, ranged_outside}
use Rattle.record_bytes.proofs.reader.Reader.number_in.Goals as goal

pub returns-in_default-clause-value : goal.returns-in_default-clause-value
returns-in_default-clause-value g c =
    rw c.missing.ensures (ranged_missing _ _ _ _ _ c.in_default.ensures.value)

pub returns-then-not-inside-clause-value : goal.returns-then-not-inside-clause-value
returns-then-not-inside-clause-value g c =
    let out : (g.T.Number.value c.in-Some.n < c.args.low) ⊎ (c.args.high < g.T.Number.value c.in-Some.n) = search rules in
    ranged_outside _ _ _ _ _ _ c.in-Some.ensures.value out

pub returns-clause-value : goal.returns-clause-value
returns-clause-value g c =
    ranged_inside _ _ _ _ _ _ c.in-Some.ensures.value (search rules) (search rules)
