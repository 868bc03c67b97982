use Rattle.pipe.proofs.PipeLaws.{pipe_laws}
use Rattle.pipe.proofs.due.passed_by.Goals as goal

pub returns-clause-law : goal.returns-clause-law
returns-clause-law c = pipe_laws
