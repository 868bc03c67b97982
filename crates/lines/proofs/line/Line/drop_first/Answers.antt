use Rattle.std.proofs.Common.{Some, rules}
use Rattle.lines.proofs.Meanings.{drop_means}
use Rattle.lines.proofs.line.Line.drop_first.Goals as goal

pub returns-clause-means : goal.returns-clause-means
returns-clause-means g c = drop_means _ _ (Some _) (search rules)
