-- The run in which a promise is met to the tick. Assumes nothing.
use Rattle.std.proofs.Common.{◌≡◌, ℕ, ◌<◌, [], Some, refl, subst, arith}
use Rattle.flows.specs.FlowFormat.{passes as stands}
use Rattle.promises.specs.Promises.{bursts, before, long}
use Rattle.promises.specs.Examples.{two_classes}
use Rattle.port.specs.Port.{Sending, PortModel, passes, takes, ticks, Run, begins, goes, queue_of, empty, passed, taken, ticked}
use Rattle.port.specs.Examples.{PromiseMet}

-- a port that is sending may tick on
sends : (s : PortModel) (x : Sending) → s.sending ≡ Some x → Run 0 two_classes s → Run 0 two_classes (ticked s)
sends s x is run = goes run (ticks (λ free. cc) refl)

-- the packet of class 1 passes and is taken, and that of class 0 passes
abbrev behind : PortModel
behind = passed two_classes (taken (passed two_classes (empty two_classes) 1 4) 1 (record { flow = 1; len = 4; into = 0 }) []) 0 3

comes : Run 0 two_classes behind
unfolding stands
comes =
    goes (goes (goes begins
    (passes 1 4 (record { known = omega arith; crosses = refl; some = omega arith; short = omega arith; regular = omega arith }) refl))
    (takes 1 (record { flow = 1; len = 4; into = 0 }) [] (record { free = refl; first = refl; lowest = none }) refl))
    (passes 0 3 (record { known = omega arith; crosses = refl; some = omega arith; short = omega arith; regular = omega arith }) refl)
  where
    none : (d : ℕ) → d < 1 → queue_of (passed two_classes (empty two_classes) 1 4).queues d ≡ []
    none d h = let first : 0 ≡ d = omega arith in subst (λ e. queue_of (passed two_classes (empty two_classes) 1 4).queues e ≡ []) first refl

-- four ticks later the first has left, and the second is taken
abbrev freed : PortModel
freed = ticked (ticked (ticked (ticked behind)))

abbrev follows : PortModel
follows = taken freed 0 (record { flow = 0; len = 3; into = 0 }) []

serves : Run 0 two_classes follows
serves =
    let first : Sending = record { packet = record { flow = 1; len = 4; into = 0 }; until = 4 } in
    let run = sends (ticked (ticked (ticked behind))) first refl (sends (ticked (ticked behind)) first refl
    (sends (ticked behind) first refl (sends behind first refl comes))) in
    goes run (takes 0 (record { flow = 0; len = 3; into = 0 }) [] (record { free = refl; first = refl; lowest = λ d h. absurd (omega arith) }) refl)

pub promise-met : PromiseMet
unfolding bursts before long stands
promise-met =
    let second : Sending = record { packet = record { flow = 0; len = 3; into = 0 }; until = 7 } in (
      ticked (ticked (ticked follows)),
      sends (ticked (ticked follows)) second refl (sends (ticked follows) second refl (sends follows second refl serves)),
      refl,
    )
