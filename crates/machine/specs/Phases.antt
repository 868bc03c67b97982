-- What leaves a port in a tick, and what it takes then. Assumes nothing.
use Rattle.std.specs.Prelude.{ℕ, ◌+◌, min, cond, List, Some, None, Option, ◌==◌}
use Rattle.lines.specs.declared.packet.Packet.{Packet}
use Rattle.queues.specs.declared.queues_of.Taken.{Taken}
use Rattle.queues.specs.declared.queues_of.Taken.TheVariants.{Packet as taken, Nothing}
use Rattle.queues.specs.Lines.{taken_from}
use Rattle.machine.specs.declared.sending.Sending.{Sending}
use Rattle.machine.specs.declared.leaving.Leaving.{Leaving}
use Rattle.machine.specs.declared.leaving.Leaving.TheVariants.{Gone, Busy, Idle}

-- what is being sent is gone at the tick at which its last bit leaves
abbrev pub leaves : ℕ → Option Sending → Leaving
leaves tick None = Idle
leaves tick (Some sending) = cond (sending.until == tick) (Gone sending.packet) (Busy sending)

-- what is still being sent then
abbrev pub goes_on : Leaving → Option Sending
goes_on (Gone packet) = None
goes_on (Busy sending) = Some sending
goes_on Idle = None

-- the tick at which the last bit of a packet leaves that is taken at a tick; ticks are of 64 bits
abbrev pub last_bit : ℕ → ℕ → ℕ
last_bit tick length = min (tick + length) 18446744073709551615

abbrev pub begun : ℕ → Taken → Option Sending
begun tick (taken class packet) = Some (record { packet = packet; until = last_bit tick packet.length })
begun tick Nothing = None

-- what a port is sending that took at a tick: the first packet of the lowest class that has one
abbrev pub takes : ℕ → List (List Packet) → Option Sending
takes tick lines = begun tick (taken_from 0 lines)
