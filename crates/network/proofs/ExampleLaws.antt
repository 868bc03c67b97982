-- The worked example. Assumes nothing.
use Rattle.std.proofs.Common.{ℕ, zero, suc, ◌<◌, ◌≤◌, [], ◌∷◌, refl, arith}
use Rattle.std.specs.List.{AllByRecursion as Each}
use Rattle.flows.specs.Flow.{IsRoad, InRange}
use Rattle.promises.specs.Promises.{den, rates, before, long, bursts, due_over, windowed, goes}
use Rattle.flows.specs.FlowFormat.{passes}
use Rattle.memory.specs.Plans.{class_plan, regulator_plan, switch_plan}
use Rattle.admission.specs.Rules.{switch_need, memory_of}
use Rattle.queues.specs.Lines.{taken_from, left_by, sum_over}
use Rattle.gates.specs.Gates.{opened}
use Rattle.egress.specs.Egress.{accept_all, open_all}
use Rattle.egress.specs.Histories.{onward}
use Rattle.network.specs.Network.{starts, from_wires, from_sources, at_end, still_on, gone, net_left}
use Rattle.network.specs.Admitted.{OfFlow}
use Rattle.network.specs.Examples.{pair, over, there_and_back, one_packet, GoesRound}

promised : (p : ℕ) → p < 2 → rates p there_and_back ≤ den
unfolding before passes
promised zero known = omega arith
promised (suc zero) known = omega arith
promised (suc (suc p)) known = absurd (omega arith)

roomy : (s : ℕ) → s < 2 → switch_need pair there_and_back s ≤ memory_of pair s
unfolding before passes long bursts windowed goes class_plan regulator_plan switch_plan
roomy zero known = omega arith
roomy (suc zero) known = omega arith
roomy (suc (suc s)) known = absurd (omega arith)

from-source : (t : ℕ) → Each (OfFlow there_and_back) (one_packet t)
unfolding one_packet
from-source zero = (record { listed = omega arith; some = omega arith; short = omega arith }, tt)
from-source (suc t) = tt

road_there : IsRoad pair (0 ∷ 1 ∷ [])
road_there = record { known = (omega arith, (omega arith, tt)); once = ((λ e. omega arith, tt), (tt, tt)); connected = (refl, tt) }

road_back : IsRoad pair (1 ∷ 0 ∷ [])
road_back = record { known = (omega arith, (omega arith, tt)); once = ((λ e. omega arith, tt), (tt, tt)); connected = (refl, tt) }

in_range : (p q : ℕ) → InRange (over (p ∷ q ∷ []))
in_range p q =
    record {
      class_low = omega arith;
      longest_some = omega arith;
      longest_byte = omega arith;
      burst_holds = omega arith;
      burst_short = omega arith;
      rate_some = omega arith;
      rate_whole = omega arith;
      deadline_word = omega arith;
      road_some = omega arith;
      road_few = omega arith;
    }

pub goes_round : GoesRound
unfolding net_left from_wires from_sources onward starts at_end still_on gone one_packet accept_all open_all opened taken_from left_by goes before long bursts passes due_over sum_over
goes_round =
    record {
      admitted =
          record {
            sound = (record { ranges = in_range 0 1; route = road_there }, (record { ranges = in_range 1 0; route = road_back }, tt));
            fits = record { few = omega arith; promised = promised; punctual = (omega arith, (omega arith, tt)); roomy = roomy };
            sources = from-source;
          };
      due = refl;
      first = refl;
      then = refl;
    }
