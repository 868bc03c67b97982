use Rattle.std.proofs.Common.{◌≡◌, ◌++◌, map, drop, vec_items}
use Rattle.levels.specs.Models.{level_model}
use Rattle.device.proofs.StartLaws.{fulls}
use Rattle.device.proofs.levels_of.levels_of.Given as goal

abbrev pub invariant-loop-numbered : goal.invariant-loop-numbered
invariant-loop-numbered l = map level_model (vec_items l.levels) ++ fulls (drop l.numbered-index l.flows) ≡ fulls l.flows
