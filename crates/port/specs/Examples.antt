-- A promise that is met to the tick. Assumes nothing.
use Rattle.std.specs.Prelude.{◌≡◌, List, [], ◌∷◌}
use Rattle.promises.specs.Promises.{promise}
use Rattle.promises.specs.Examples.{two_classes}
use Rattle.port.specs.Port.{Gone, PortModel, Run}

-- The longest packet of class 1 has just been taken when the longest of class 0 passes, in tick 0.
abbrev pub both_gone : List Gone
both_gone =
    record { packet = record { flow = 0; len = 3; into = 0 }; at = promise 0 0 two_classes } ∷
    record { packet = record { flow = 1; len = 4; into = 0 }; at = 4 } ∷ []

-- the first leaves exactly when its promise ends, so this promise could not be shorter
abbrev pub PromiseMet : Type 0
PromiseMet = (s : PortModel) × Run 0 two_classes s × (s.gone ≡ both_gone)
