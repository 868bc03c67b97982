-- A record of any kind, where a program stands. Assumes nothing.
use Rattle.std.specs.Prelude.{ℕ, Bool, List, length, Some, None, Option}
use Rattle.record_bytes.specs.Reading.{Verdict, accepted, refused}
use Rattle.flows.specs.Net.{NetModel}
use Rattle.flows.specs.Flow.{FlowModel}
use Rattle.flows.specs.Models.{net_of, flow_of}
use Rattle.flows.specs.NetFormat.{net_record}
use Rattle.flows.specs.FlowFormat.{flow_record}
use Rattle.records.specs.declared.stage.Program.{Program}
use Rattle.records.specs.declared.stage.Program.TheVariants.{Admit, Ports, Evening}
use Rattle.records.specs.declared.stage.Stage.{Stage}
use Rattle.record_bytes.specs.declared.kind.Kind.{Kind}
use Rattle.record_bytes.specs.declared.kind.Kind.TheVariants as kinds
use Rattle.records.specs.declared.record.Packet.{Packet}
use Rattle.records.specs.declared.record.Arrival.{Arrival}
use Rattle.records.specs.declared.record.Ticks.{Ticks}
use Rattle.records.specs.declared.record.Switch.{Switch}
use Rattle.records.specs.declared.record.Record.{Record}
use Rattle.records.specs.declared.record.Record.TheVariants as variants
use Rattle.records.specs.Kinds.{kind_of}
use Rattle.records.specs.Formats.{packet_record, arrival_record, ticks_record, switch_record}

pub data RecordModel : Type 0 where
  a_switch : Switch → RecordModel
  a_net : NetModel → RecordModel
  a_flow : FlowModel → RecordModel
  a_packet : Packet → RecordModel
  an_arrival : Arrival → RecordModel
  some_ticks : Ticks → RecordModel

abbrev pub record_of : Record → RecordModel
record_of (variants.Switch s) = a_switch s
record_of (variants.Net n) = a_net (net_of n)
record_of (variants.Flow f) = a_flow (flow_of f)
record_of (variants.Packet p) = a_packet p
record_of (variants.Arrival a) = an_arrival a
record_of (variants.Ticks t) = some_ticks t

-- the same verdict on what the value stands for
abbrev pub judged_as : {A B : Type 0} → (A → B) → Verdict A → Verdict B
judged_as f (accepted v) = accepted (f v)
judged_as f (refused number place) = refused number place

-- a single switch is told by which port a packet goes on
abbrev pub packet_as : Program → NetModel → Bool → List ℕ → Verdict RecordModel
packet_as Admit net whole bs = judged_as a_packet (packet_record whole bs)
packet_as Ports net whole bs = judged_as an_arrival (arrival_record (length net.ports) whole bs)
packet_as Evening net whole bs = judged_as a_packet (packet_record whole bs)

-- each kind by its format; a record of no known kind is fault 1 at its first byte
abbrev pub record_as : Program → Option Kind → NetModel → ℕ → Bool → List ℕ → Verdict RecordModel
record_as program None net least whole bs = refused 1 0
record_as program (Some kinds.Flow) net least whole bs = judged_as a_flow (flow_record net whole bs)
record_as program (Some kinds.Net) net least whole bs = judged_as a_net (net_record least whole bs)
record_as program (Some kinds.Packet) net least whole bs = packet_as program net whole bs
record_as program (Some kinds.Tick) net least whole bs = judged_as some_ticks (ticks_record whole bs)
record_as program (Some kinds.Switch) net least whole bs = judged_as a_switch (switch_record whole bs)

-- a record where a program stands: of a net to come it is known how many switches it must have at least
abbrev pub record_here : Program → Stage → NetModel → ℕ → Bool → List ℕ → Verdict RecordModel
record_here program stage net least whole bs = record_as program (kind_of program stage bs) net least whole bs
