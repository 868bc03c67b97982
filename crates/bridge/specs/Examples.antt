-- Worked: a tick at a port with two regulators. Assumes nothing.
use Rattle.std.specs.Prelude.{◌≡◌, [], ◌∷◌, replicate, Some, None, slice_index_or}
use Rattle.levels.specs.Levels.{full_level}
use Rattle.gates.specs.Laws.{packet_of}
use Rattle.machine.specs.Phases.{leaves}
use Rattle.bridge.specs.Ports.{edge, inside, PortState, PortTick, port_tick, port_left, gone}

-- To the edge comes a packet of two ticks, of flow 0; from port 1 come two packets of one tick, of flow 1, where one tick is set aside.
abbrev pub of_two_gates : PortState
of_two_gates =
    record {
      gates =
          record { stand = edge 0; waits = []; coming = record { number = 7; packet = packet_of 0 2 0 } ∷ [] } ∷
          record {
            stand = inside 1 3 1;
            waits = [];
            coming = record { number = 4; packet = packet_of 1 1 2 } ∷ record { number = 5; packet = packet_of 1 1 2 } ∷ [];
          } ∷
          [];
      levels = full_level 2 1000 ∷ full_level 1 1000 ∷ [];
      queues = replicate 8 [];
      sending = None;
    }

abbrev pub at_five : PortTick
at_five = port_tick 9 (3 ∷ 3 ∷ []) 5 of_two_gates

-- The last is refused. Both others pass, first that at the edge, which is taken and leaves at tick 7.
pub record Worked : Type 0 where
  pub refused : at_five.refused ≡ 5 ∷ []
  pub taken : at_five.port.sending ≡ Some (record { packet = packet_of 0 2 5; until = 7 })
  pub queued : slice_index_or at_five.port.queues 3 [] ≡ packet_of 1 1 2 ∷ []
  pub busy : gone (leaves 6 at_five.port.sending) ≡ None
  pub left : gone (leaves 7 at_five.port.sending) ≡ Some (packet_of 0 2 5)
  pub idle : (port_left 7 at_five.port).sending ≡ None
