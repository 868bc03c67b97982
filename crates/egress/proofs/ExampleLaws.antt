-- The worked examples compute. Assumes nothing.
use Rattle.std.proofs.Common.{[], ◌∷◌, ◌++◌, refl, arith}
use Rattle.flows.specs.FlowFormat.{passes as on_road}
use Rattle.promises.specs.Promises.{before, bursts}
use Rattle.queues.specs.Lines.{taken_from, left_by, sum_over}
use Rattle.gates.specs.Gates.{opened}
use Rattle.egress.specs.Egress.{accept_all, open_all, after_ticks}
use Rattle.egress.specs.Plays.{Enough, MayCome}
use Rattle.egress.specs.Examples.{quiet, comes_there, one_flow, two_flows, LeavesAtEleven, PassAtTwenty}
use Rattle.egress.proofs.TickLaws.{ticks-play}

one_enough : Enough one_flow
unfolding on_road before bursts
one_enough =
    record {
      within = record { classed = (omega arith, tt); rated = (omega arith, tt); room = omega arith };
      holding = (omega arith, tt);
      short = (omega arith, tt);
      table = omega arith;
      cells = omega arith;
    }

two_enough : Enough two_flows
unfolding on_road before bursts
two_enough =
    record {
      within =
          record {
            classed = (omega arith, (omega arith, tt));
            rated = (omega arith, (omega arith, tt));
            room = omega arith;
          };
      holding = (omega arith, (omega arith, tt));
      short = (omega arith, (omega arith, tt));
      table = omega arith;
      cells = omega arith;
    }

one_comes : MayCome one_flow (comes_there 0 2)
unfolding on_road
one_comes = record { within = omega arith; belongs = (record { crosses = refl; class = refl; some = omega arith; short = omega arith }, refl) }

first_comes : MayCome two_flows (comes_there 0 3)
unfolding on_road
first_comes = record { within = omega arith; belongs = (record { crosses = refl; class = refl; some = omega arith; short = omega arith }, refl) }

second_comes : MayCome two_flows (comes_there 1 3)
unfolding on_road
second_comes = record { within = omega arith; belongs = (record { crosses = refl; class = refl; some = omega arith; short = omega arith }, refl) }

pub leaves_at_eleven : LeavesAtEleven
unfolding taken_from left_by sum_over opened accept_all open_all after_ticks
leaves_at_eleven =
    record {
      enough = one_enough;
      plays = ticks-play one_flow [] (quiet 8 ++ (comes_there 0 2 ∷ []) ∷ [] ∷ []) tt (tt, (tt, (tt, (tt, (tt, (tt, (tt, (tt, ((one_comes, tt), (tt, tt)))))))))) (omega arith);
      tick = refl;
      left = refl;
    }

pub pass_at_twenty : PassAtTwenty
unfolding taken_from left_by sum_over opened accept_all open_all after_ticks
pass_at_twenty =
    record {
      enough = two_enough;
      plays =
          ticks-play two_flows (comes_there 0 3 ∷ []) (quiet 7 ++ (comes_there 0 3 ∷ []) ∷ (quiet 3 ++ (comes_there 0 3 ∷ comes_there 1 3 ∷ []) ∷ []))
          (first_comes, tt)
          (tt, (tt, (tt, (tt, (tt, (tt, (tt, ((first_comes, tt), (tt, (tt, (tt, ((first_comes, (second_comes, tt)), tt))))))))))))
          (omega arith);
      tick = refl;
      might = refl;
      wait = refl;
      idle = refl;
      passed = refl;
      taken = refl;
      queued = refl;
    }
