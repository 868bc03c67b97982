use Rattle.levels.proofs.LevelLaws.{level_laws}
use Rattle.levels.proofs.level.Level.may_pass.Goals as goal

pub returns-clause-laws : goal.returns-clause-laws
returns-clause-laws c = level_laws
