use Rattle.std.proofs.Common.{Some, rules}
use Rattle.lines.proofs.Meanings.{push_means}
use Rattle.lines.proofs.LineLaws.{line_laws}
use Rattle.lines.proofs.line.Line.push.Goals as goal

pub returns-in_err-end-clause-laws : goal.returns-in_err-end-clause-laws
returns-in_err-end-clause-laws g c = line_laws g.row.T.Denot

pub returns-clause-means : goal.returns-clause-means
returns-clause-means g c = push_means _ _ _ _ (Some _) (search rules) (search rules)

pub returns-clause-laws : goal.returns-clause-laws
returns-clause-laws g c = line_laws g.row.T.Denot
