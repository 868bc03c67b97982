use Rattle.std.proofs.Common.{Some, rules}
use Rattle.lines.proofs.TickLaws.{push_counts}
use Rattle.lines.proofs.counted.Counted.push.Goals as goal

pub returns-clause-means : goal.returns-clause-means
returns-clause-means c = push_counts _ _ _ _ (Some _) (search rules) (search rules)
