-- What the values of the code stand for. Assumes nothing.
use Rattle.levels.specs.declared.level.Level.{Level}
use Rattle.levels.specs.Levels.{LevelModel}

abbrev pub level_model : Level → LevelModel
level_model l = record { burst = l.burst; rate = l.rate; level = l.level; last = l.last }
