-- What the values of the code stand for. Assumes nothing.
use Rattle.std.specs.Prelude.{List, map}
use Rattle.promises.specs.declared.load.Load.{Load}
use Rattle.promises.specs.declared.loads.Loads.{Loads}
use Rattle.promises.specs.declared.pairs.Pairs.{Pairs}
use Rattle.promises.specs.Loads.{LoadModel}

abbrev pub load_model : Load → LoadModel
load_model l = record { bursts = map (λ c. c.bursts) l.classes; rates = map (λ c. c.rates) l.classes; longest = map (λ c. c.longest) l.classes }

abbrev pub loads_model : Loads → List LoadModel
loads_model l = map load_model l.ports.each

abbrev pub pairs_model : Pairs → List (List LoadModel)
pairs_model l = map loads_model l.from.each
