use Rattle.std.proofs.Common.{◌≡◌, drop}
use Rattle.promises.specs.Loads.{loads_along}
use Rattle.promises.specs.Models.{loads_model}
use Rattle.promises.proofs.loads.Loads.follow.Given as goal

abbrev pub invariant-loop-port : goal.invariant-loop-port
invariant-loop-port l =
    loads_along (drop l.port-index l.road) (loads_model l.other) (loads_model l.self) ≡
    loads_along l.road (loads_model l.other) (loads_model l.initial.self)
