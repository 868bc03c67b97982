-- The run in which a packet waits as long as the one before it took to come. Assumes nothing.
use Rattle.std.proofs.Common.{[], ◌∷◌, None, refl, arith}
use Rattle.promises.specs.Examples.{two_classes}
use Rattle.pipe.specs.Pipe.{Packet, PipeModel, Run, enters, comes, passes, ticks, begins, goes, empty, entered, met, left, ticked, arrived}
use Rattle.pipe.specs.Examples.{WaitMet}
use Rattle.pipe.proofs.OrderLaws.{away-ticks, held-ticks}

-- both packets, as they are sent
abbrev early : Packet
early = record { flow = 1; len = 5; sent = 0; lack = 5000000; came = None }

abbrev second : Packet
second = record { flow = 1; len = 1; sent = 2; lack = 5000000; came = None }

-- the first is under way for two ticks, and then the second is sent
abbrev sent : PipeModel
sent = entered two_classes (empty two_classes) 1 5

abbrev both : PipeModel
both = entered two_classes (ticked (ticked sent)) 1 1

both_run : Run two_classes both
both_run =
    goes (goes (goes (goes begins
    (enters 1 5 (record { known = omega arith; some = omega arith; regular = omega arith }) refl))
    (ticks (away-ticks two_classes sent early [] refl refl) refl))
    (ticks (away-ticks two_classes (ticked sent) early [] refl refl) refl))
    (enters 1 1 (record { known = omega arith; some = omega arith; regular = omega arith }) refl)

-- both come, and the first passes
abbrev waits : PipeModel
waits = met (left two_classes (met both [] early (second ∷ [])) (arrived 2 early) (second ∷ []) 2) [] second []

waits-run : Run two_classes waits
waits-run =
    goes (goes (goes both_run
    (comes [] early (second ∷ []) (record { stands = refl; first = tt; away = refl }) refl))
    (passes (arrived 2 early) (second ∷ []) 2 (record { first = refl; come = refl; regular = omega arith }) refl))
    (comes [] second [] (record { stands = refl; first = tt; away = refl }) refl)

-- two ticks later the second may pass
pub wait-met : WaitMet
wait-met = (
  left two_classes (ticked (ticked waits)) (arrived 2 second) [] 2,
  goes (goes (goes waits-run
      (ticks (held-ticks two_classes waits (arrived 2 second) [] refl (omega arith)) refl))
      (ticks (held-ticks two_classes (ticked waits) (arrived 2 second) [] refl (omega arith)) refl))
      (passes (arrived 2 second) [] 2 (record { first = refl; come = refl; regular = omega arith }) refl),
  refl,
)
