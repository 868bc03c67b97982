-- The states that the code comes to at one port, phase by phase. Assumes nothing.
use Rattle.std.specs.Prelude.{◌≡◌, ℕ, ◌+◌, ◌^◌, ◌<◌, ◌≤◌, Bool, true, List, [], map, replicate, Some, None, Option, slice_index_or}
use Rattle.flows.specs.Flow.{FlowModel}
use Rattle.promises.specs.Promises.{over}
use Rattle.lines.specs.declared.packet.Packet.{Packet}
use Rattle.levels.specs.Levels.{full_level}
use Rattle.queues.specs.declared.queues_of.Taken.TheVariants.{Packet as taken}
use Rattle.queues.specs.Lines.{taken_from, left_by}
use Rattle.gates.specs.Gates.{Opened, class_of, may_go, spent_by, queued_by}
use Rattle.port.specs.Port.{flow_at}
use Rattle.machine.specs.declared.sending.Sending.{Sending}
use Rattle.machine.specs.Phases.{leaves, goes_on, takes as takes_first}
use Rattle.machine.specs.Joint.{MachineModel}

-- full levels, empty queues, and nothing being sent, at tick 0
abbrev pub at_first : List FlowModel → MachineModel
at_first fs =
    record {
      levels = map (λ f. full_level f.burst f.rate) fs;
      queues = replicate 8 [];
      sending = None;
      tick = 0;
    }

-- a packet of a flow over port p, no longer than the flow's longest; the table of classes has its class
pub record Fitting (p : ℕ) (fs : List FlowModel) (classes : List ℕ) (packet : Packet) : Type 0 where
  pub crosses : over p (flow_at fs packet.flow) ≡ true
  pub class : class_of classes packet ≡ (flow_at fs packet.flow).class
  pub some : 1 ≤ packet.length
  pub short : packet.length ≤ (flow_at fs packet.flow).longest

-- it passes if its gate lets it
pub record MayPass (p : ℕ) (fs : List FlowModel) (room : ℕ) (classes : List ℕ) (s : MachineModel) (packet : Packet) : Type 0 where
  pub fitting : Fitting p fs classes packet
  pub may : may_go room classes s.tick packet s.levels s.queues ≡ true

abbrev pub after_pass : (ℕ → Bool) → List ℕ → MachineModel → Packet → MachineModel
after_pass enters classes s packet =
    record {
      levels = spent_by s.tick packet s.levels;
      queues = queued_by (enters packet.flow) classes s.tick packet s.queues;
      sending = s.sending;
      tick = s.tick;
    }

-- a port that is not sending takes a packet, which leaves at a tick of 64 bits
pub record MayTake (s : MachineModel) (class : ℕ) (packet : Packet) : Type 0 where
  pub free : s.sending ≡ None
  pub first : taken_from 0 s.queues ≡ taken class packet
  pub until : s.tick + packet.length < 2 ^ 64

abbrev pub after_take : MachineModel → MachineModel
after_take s =
    record { levels = s.levels; queues = left_by s.queues; sending = takes_first s.tick s.queues; tick = s.tick }

-- the next tick begins where something is being sent or nothing waits, and what leaves in it leaves
abbrev pub MayTick : MachineModel → Type 0
MayTick s = s.sending ≡ None → (c : ℕ) → slice_index_or s.queues c [] ≡ []

abbrev pub after_tick : MachineModel → MachineModel
after_tick s =
    record {
      levels = s.levels;
      queues = s.queues;
      sending = goes_on (leaves (s.tick + 1) s.sending);
      tick = s.tick + 1;
    }

-- the states that the code comes to by these in any order
pub data Goes (enters : ℕ → Bool) (p : ℕ) (fs : List FlowModel) (room : ℕ) (classes : List ℕ) : MachineModel → Type 0 where
  begins : Goes enters p fs room classes (at_first fs)
  passes : {s : MachineModel} (packet : Packet) → Goes enters p fs room classes s → MayPass p fs room classes s packet → Goes enters p fs room classes (after_pass enters classes s packet)
  takes : {s : MachineModel} (class : ℕ) (packet : Packet) → Goes enters p fs room classes s → MayTake s class packet → Goes enters p fs room classes (after_take s)
  ticks : {s : MachineModel} → Goes enters p fs room classes s → MayTick s → Goes enters p fs room classes (after_tick s)

-- after a gate was opened, and after the port took unless it is sending
abbrev pub after_open : MachineModel → Opened → MachineModel
after_open s o = record { levels = o.levels; queues = o.queues; sending = s.sending; tick = s.tick }

abbrev pub after_taking : MachineModel → Option Sending → MachineModel
after_taking s None = after_take s
after_taking s (Some sending) = s
