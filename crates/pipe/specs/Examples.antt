-- A packet that waits in the regulator as long as the packet before it took to come. Assumes nothing.
use Rattle.std.specs.Prelude.{◌≡◌, List, [], ◌∷◌, Some}
use Rattle.promises.specs.Examples.{two_classes}
use Rattle.pipe.specs.Pipe.{Passed, PipeModel, Run}

-- All of a flow's burst passes in tick 0, and one tick of it more in tick 2. Both come in tick 2, where the first passes on.
abbrev pub both_passed : List Passed
both_passed =
    record { packet = record { flow = 1; len = 1; sent = 2; lack = 5000000; came = Some 2 }; came = 2; at = 4 } ∷
    record { packet = record { flow = 1; len = 5; sent = 0; lack = 5000000; came = Some 2 }; came = 2; at = 2 } ∷ []

-- the second, which came at once itself, passes two ticks after it was sent: as many as the first took to come
abbrev pub WaitMet : Type 0
WaitMet = (s : PipeModel) × Run two_classes s × (s.passed ≡ both_passed)
