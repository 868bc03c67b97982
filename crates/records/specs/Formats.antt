-- The bytes of packets, ticks and switches. Assumes nothing.
use Rattle.std.specs.Prelude.{ℕ, ◌<◌, Bool, List, ◌++◌}
use Rattle.record_bytes.specs.Reading.{Cursor, Outcome, Verdict, ◌>>=◌, ◌>>◌, pure, closed, start}
use Rattle.record_bytes.specs.Numbers.{number, kind_byte, bytes_of}
use Rattle.flows.specs.FlowFormat.{port_number}
use Rattle.records.specs.declared.record.Packet.{Packet}
use Rattle.records.specs.declared.record.Arrival.{Arrival}
use Rattle.records.specs.declared.record.Ticks.{Ticks}
use Rattle.records.specs.declared.record.Switch.{Switch}

-- a packet: its kind, its flow, its length
unfoldable pub packet_from : Cursor → Outcome Packet
packet_from = do
  kind_byte 3
  flow ← number 2
  length ← number 1
  pure (record { flow = flow; length = length })

-- a packet and the port by which it goes on, in a net of so many ports
unfoldable pub arrival_from : ℕ → Cursor → Outcome Arrival
arrival_from ports = do
  packet ← packet_from
  port ← port_number ports
  pure (record { packet = packet; port = port })

-- a kind, and a number of k bytes
unfoldable pub number_of_kind : ℕ → ℕ → Cursor → Outcome ℕ
number_of_kind kind k = kind_byte kind >> number k

-- ticks: their kind and how many
unfoldable pub ticks_from : Cursor → Outcome Ticks
ticks_from = do
  kind_byte 4
  count ← number 4
  pure (record { count = count })

-- a switch: its kind and its number
unfoldable pub switch_from : Cursor → Outcome Switch
switch_from = do
  kind_byte 5
  n ← number 1
  pure (record { number = n })

-- each from all bytes of a record
abbrev pub packet_record : Bool → List ℕ → Verdict Packet
packet_record whole bs = closed whole (packet_from (start bs))

abbrev pub arrival_record : ℕ → Bool → List ℕ → Verdict Arrival
arrival_record ports whole bs = closed whole (arrival_from ports (start bs))

abbrev pub number_record : ℕ → ℕ → Bool → List ℕ → Verdict ℕ
number_record kind k whole bs = closed whole (number_of_kind kind k (start bs))

abbrev pub ticks_record : Bool → List ℕ → Verdict Ticks
ticks_record whole bs = closed whole (ticks_from (start bs))

abbrev pub switch_record : Bool → List ℕ → Verdict Switch
switch_record whole bs = closed whole (switch_from (start bs))

-- and what is written for each
abbrev pub packet_bytes : Packet → List ℕ
packet_bytes p = bytes_of 1 3 ++ (bytes_of 2 p.flow ++ bytes_of 1 p.length)

abbrev pub arrival_bytes : Arrival → List ℕ
arrival_bytes a = packet_bytes a.packet ++ bytes_of 1 a.port

abbrev pub ticks_bytes : Ticks → List ℕ
ticks_bytes t = bytes_of 1 4 ++ bytes_of 4 t.count

abbrev pub switch_bytes : Switch → List ℕ
switch_bytes s = bytes_of 1 5 ++ bytes_of 1 s.number

-- the numbers fit their bytes
abbrev pub SoundPacket : Packet → Type 0
SoundPacket p = (p.flow < 65536) × (p.length < 256)

abbrev pub SoundArrival : ℕ → Arrival → Type 0
SoundArrival ports a = SoundPacket a.packet × (a.port < ports)

abbrev pub SoundTicks : Ticks → Type 0
SoundTicks t = t.count < 4294967296

abbrev pub SoundSwitch : Switch → Type 0
SoundSwitch s = s.number < 256
