-- Worked: a packet that leaves when it should, and one that waits behind another. Assumes nothing.
use Rattle.std.specs.Prelude.{◌≡◌, ℕ, ◌++◌, true, false, List, [], ◌∷◌, replicate, Some, slice_index_or}
use Rattle.flows.specs.Flow.{FlowModel}
use Rattle.lines.specs.declared.packet.Packet.{Packet}
use Rattle.levels.specs.Levels.{may_pass}
use Rattle.gates.specs.Gates.{level_of}
use Rattle.machine.specs.declared.leaving.Leaving.TheVariants.{Gone}
use Rattle.egress.specs.Egress.{EgressModel, Accepted, gate_at, then_phases, whole_tick, after_ticks}
use Rattle.egress.specs.Plays.{Setup, Enough, at_start, took, Plays}

-- no packet for so many ticks
abbrev pub quiet : ℕ → List (List Accepted)
quiet n = replicate n []

abbrev pub packet_of : ℕ → ℕ → ℕ → Packet
packet_of flow length edge = record { flow = flow; length = length; edge = edge }

-- it comes to the first regulator
abbrev pub comes_there : ℕ → ℕ → Accepted
comes_there flow length = record { gate = 0; packet = packet_of flow length 0 }

-- the state at the end of the last of these ticks
abbrev pub at_end : Setup → List Accepted → List (List Accepted) → EgressModel
at_end a cs css = after_ticks a.room a.classes css (then_phases a.room a.classes cs (at_start a))

-- a flow that enters the net at port 0
abbrev pub one_flow : Setup
one_flow =
    record {
      port = 0;
      flows = record { class = 3; longest = 2; burst = 2; rate = 1000; deadline = 9; road = 0 ∷ [] } ∷ [];
      enters = λ _. true;
      room = 2;
      classes = 3 ∷ [];
      edges = true ∷ [];
    }

-- A packet of two ticks comes at tick 9 and finds the port idle; it leaves at tick 11.
pub record LeavesAtEleven : Type 0 where
  pub enough : Enough one_flow
  pub plays : Plays one_flow took (at_end one_flow [] (quiet 8 ++ (comes_there 0 2 ∷ []) ∷ [] ∷ []))
  pub tick : (at_end one_flow [] (quiet 8 ++ (comes_there 0 2 ∷ []) ∷ [] ∷ [])).machine.tick ≡ 10
  pub left : (whole_tick 2 (3 ∷ []) [] (at_end one_flow [] (quiet 8 ++ (comes_there 0 2 ∷ []) ∷ [] ∷ []))).left ≡ Gone (packet_of 0 2 9)

-- two flows alike that go from port 0 to port 1, through one regulator
abbrev pub alike : FlowModel
alike = record { class = 0; longest = 3; burst = 4; rate = 250000; deadline = 99; road = 0 ∷ 1 ∷ [] }

abbrev pub two_flows : Setup
two_flows =
    record {
      port = 1;
      flows = alike ∷ alike ∷ [];
      enters = λ _. false;
      room = 8;
      classes = 0 ∷ 0 ∷ [];
      edges = false ∷ [];
    }

-- Packets of the first flow come at ticks 0, 8 and 12; one of the second comes at tick 12, behind the last of them.
abbrev pub until_twelve : EgressModel
until_twelve =
    at_end two_flows (comes_there 0 3 ∷ [])
    (quiet 7 ++ (comes_there 0 3 ∷ []) ∷ (quiet 3 ++ (comes_there 0 3 ∷ comes_there 1 3 ∷ []) ∷ []))

abbrev pub ticks_later : ℕ → EgressModel
ticks_later n = after_ticks 8 (0 ∷ 0 ∷ []) (quiet n) until_twelve

-- The last of the first flow may not pass before tick 20. That of the second might at tick 12, but waits behind it; so both pass at
-- tick 20.
pub record PassAtTwenty : Type 0 where
  pub enough : Enough two_flows
  pub plays : Plays two_flows took until_twelve
  pub tick : until_twelve.machine.tick ≡ 12
  pub might : may_pass (level_of until_twelve.machine.levels (packet_of 1 3 0)) 12 3 ≡ true
  pub wait : (gate_at (ticks_later 7).gates 0).waits ≡ packet_of 0 3 0 ∷ packet_of 1 3 0 ∷ []
  pub idle : (ticks_later 7).machine.queues ≡ replicate 8 []
  pub passed : (gate_at (ticks_later 8).gates 0).waits ≡ []
  pub taken : (ticks_later 8).machine.sending ≡ Some (record { packet = packet_of 0 3 0; until = 23 })
  pub queued : slice_index_or (ticks_later 8).machine.queues 0 [] ≡ packet_of 1 3 0 ∷ []
