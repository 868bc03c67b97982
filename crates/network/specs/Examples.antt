-- Worked: two ports around a ring, and a packet that goes over both. Assumes nothing.
use Rattle.std.specs.Prelude.{◌≡◌, ℕ, zero, suc, List, [], ◌∷◌}
use Rattle.flows.specs.Net.{NetModel}
use Rattle.flows.specs.Flow.{FlowModel}
use Rattle.promises.specs.Promises.{due}
use Rattle.lines.specs.declared.packet.Packet.{Packet}
use Rattle.machine.specs.declared.leaving.Leaving.TheVariants.{Gone}
use Rattle.machine.specs.Phases.{leaves}
use Rattle.network.specs.Network.{Sourced, net_run}
use Rattle.network.specs.Admitted.{Admitted}

-- each wire ends at the switch of the other port, and takes no tick
abbrev pub pair : NetModel
pair =
    record {
      ports = record { switch = 0; ends = 1; wire = 0 } ∷ record { switch = 1; ends = 0; wire = 0 } ∷ [];
      memories = 100 ∷ 100 ∷ [];
    }

-- a flow from each port to the other, so that each port waits for the other
abbrev pub over : List ℕ → FlowModel
over road = record { class = 0; longest = 2; burst = 2; rate = 400000; deadline = 8; road = road }

abbrev pub there_and_back : List FlowModel
there_and_back = over (0 ∷ 1 ∷ []) ∷ over (1 ∷ 0 ∷ []) ∷ []

-- at tick 0 a packet of one tick comes from the source of the first
unfoldable pub one_packet : ℕ → List Sourced
one_packet zero = record { flow = 0; length = 1 } ∷ []
one_packet (suc t) = []

abbrev pub it : Packet
it = record { flow = 0; length = 1; edge = 0 }

-- It leaves port 0 in tick 1, is at the end of the wire, passes and is taken in the same tick, and leaves port 1 in tick 2. It is due at 8.
pub record GoesRound : Type 0 where
  pub admitted : Admitted pair there_and_back one_packet
  pub due : due pair there_and_back (over (0 ∷ 1 ∷ [])) ≡ 8
  pub first : leaves 1 ((net_run pair there_and_back one_packet 0).port 0).machine.sending ≡ Gone it
  pub then : leaves 2 ((net_run pair there_and_back one_packet 1).port 1).machine.sending ≡ Gone it
