-- What becomes of each record of a program's input. Assumes nothing.
use Rattle.std.specs.Prelude.{ℕ, ◌+◌, min, Bool, false, cond, if◌then◌else◌, ◌&&◌, List, [], ◌∷◌, length, Some, None, Option, Ok, Err, Result, ◌==◌, nat_le, nat_lt}
use Rattle.record_bytes.specs.Reading.{Verdict, accepted, refused}
use Rattle.record_bytes.specs.Row.{Extent}
use Rattle.record_bytes.specs.declared.fault.Fault.{Fault}
use Rattle.record_bytes.specs.declared.fault.Fault.TheVariants as faults
use Rattle.flows.specs.Net.{NetModel, port_at, no_net, together}
use Rattle.flows.specs.Flow.{FlowModel}
use Rattle.flows.specs.FlowFormat.{passes}
use Rattle.admission.specs.declared.refusal.Refusal.{Refusal}
use Rattle.admission.specs.Plans.{PlanModel, empty_plan, with_flow, tested}
use Rattle.admission.specs.Dues.{flow_numbered}
use Rattle.records.specs.declared.stage.Program.{Program}
use Rattle.records.specs.declared.stage.Program.TheVariants as programs
use Rattle.records.specs.declared.stage.Stage.{Stage}
use Rattle.records.specs.declared.stage.Stage.TheVariants as stages
use Rattle.records.specs.declared.record.Packet.{Packet}
use Rattle.records.specs.declared.record.Arrival.{Arrival}
use Rattle.records.specs.Kinds.{plays}
use Rattle.records.specs.Records.{RecordModel, a_switch, a_net, a_flow, a_packet, an_arrival, some_ticks, record_here}
use Rattle.script.specs.declared.line.Name.{Name}
use Rattle.script.specs.declared.line.Name.TheVariants as names
use Rattle.script.specs.declared.line.Cause.{Cause}
use Rattle.script.specs.declared.line.Cause.TheVariants as causes
use Rattle.script.specs.declared.line.Line.{Line}
use Rattle.script.specs.declared.line.Line.TheVariants as lines
use Rattle.script.specs.declared.take.Misfit.{Misfit}
use Rattle.script.specs.declared.take.Misfit.TheVariants as misfits

-- How far a program has come: where it stands, its switch, its net with the flows that are admitted to it, the clock; and
-- counts: records, those of them that took a flow number, refused packets of no flow, and other refused records.
pub record Standing : Type 0 where
  pub program : Program
  pub stage : Stage
  pub switch : ℕ
  pub plan : PlanModel
  pub clock : ℕ
  pub records : ℕ
  pub numbered : ℕ
  pub no_flow : ℕ
  pub others : ℕ

-- the last tick that the clock reaches
abbrev pub last_tick : ℕ
last_tick = 1099511627776

-- a count goes up by one, and stays at the largest number of 64 bits
abbrev pub one_more : ℕ → ℕ
one_more n = min (n + 1) 18446744073709551615

-- a single switch is asked for first, then a net
abbrev pub first_stage : Program → Stage
first_stage programs.Admit = stages.NoNet
first_stage programs.Ports = stages.NoSwitch
first_stage programs.Evening = stages.NoNet

abbrev pub beginning : Program → Standing
beginning program =
    record {
      program = program;
      stage = first_stage program;
      switch = 0;
      plan = empty_plan no_net;
      clock = 0;
      records = 0;
      numbered = 0;
      no_flow = 0;
      others = 0;
    }

-- a net must have the switch that the program is
abbrev pub least_switches : Program → ℕ → ℕ
least_switches programs.Admit switch = 0
least_switches programs.Ports switch = switch + 1
least_switches programs.Evening switch = 0

-- a record that begins with 1 takes the next flow number, whatever becomes of it
abbrev pub takes_number : List ℕ → Bool
takes_number [] = false
takes_number (first ∷ rest) = first == 1

-- what a refused record is called
abbrev pub name_of : ℕ → ℕ → List ℕ → Name
name_of records numbered [] = names.Record records
name_of records numbered (first ∷ rest) =
    cond (first == 1) (names.Flow numbered) (cond (first == 2) names.Net (names.Record records))

-- the fault of a number and a place
abbrev pub fault_at : ℕ → ℕ → Fault
fault_at number place = cond (number == 1) (faults.Length place) (cond (number == 2) (faults.Range place) (faults.Road place))

-- Parts of a step. Each leaves all else as it was.
abbrev pub with_switch : Standing → ℕ → Standing
with_switch s switch = record s { stage = stages.NoNet; switch = switch }

abbrev pub with_net : Standing → NetModel → Standing
with_net s net = record s { stage = stages.Still; plan = empty_plan net }

abbrev pub with_plan : Standing → PlanModel → Standing
with_plan s plan = record s { plan = plan }

abbrev pub with_clock : Standing → Stage → ℕ → Standing
with_clock s stage clock = record s { stage = stage; clock = clock }

abbrev pub with_refused : Standing → ℕ → ℕ → Standing
with_refused s no_flow others = record s { no_flow = no_flow; others = others }

abbrev pub with_counts : Standing → ℕ → ℕ → Standing
with_counts s records numbered = record s { records = records; numbered = numbered }

-- a line, if anything is said, and where the program stands then
abbrev pub Done : Type 0
Done = Option Line × Standing

-- a record that is refused, and is no packet of a flow or of none
abbrev pub refuse : Standing → Name → Cause → Done
refuse s name cause = (Some (lines.Refused name cause), with_refused s s.no_flow (one_more s.others))

abbrev pub take_switch : Standing → ℕ → Done
take_switch s switch = (None, with_switch s switch)

-- a flow is admitted, or refused for the first test that it fails
abbrev pub take_flow_as : Standing → FlowModel → Option Refusal → Done
take_flow_as s f None = (Some (lines.Admitted s.numbered), with_plan s (with_flow s.plan (record { number = s.numbered; flow = f })))
take_flow_as s f (Some r) = refuse s (names.Flow s.numbered) (causes.Admission r)

abbrev pub take_flow : Standing → FlowModel → Done
take_flow s f = take_flow_as s f (tested s.plan (record { number = s.numbered; flow = f }))

-- 8: a packet's length is at least 1, and at most the longest of its flow
abbrev pub length_fits : FlowModel → ℕ → Bool
length_fits f n = nat_le 1 n && nat_le n f.longest

-- and its port is on the road of its flow, and on this switch
abbrev pub port_fits : FlowModel → NetModel → ℕ → ℕ → Bool
port_fits f net switch port = passes port f.road && (port_at net port).switch == switch

-- A packet is taken in, and the net no longer stands still; or it is refused, and counted if it is of no flow.
abbrev pub take_packet : Standing → ℕ → Result (Unit {0}) Misfit → Done
take_packet s flow (Ok _) = (None, with_clock s stages.Running s.clock)
take_packet s flow (Err misfits.NoFlow) =
    (Some (lines.Refused (names.Record s.records) (causes.Packet flow)), with_refused s (one_more s.no_flow) s.others)
take_packet s flow (Err misfits.Unfit) = (Some (lines.Refused (names.Record s.records) (causes.Packet flow)), s)

-- whether a packet fits its flow, if there is such a flow
abbrev pub packet_fits : Option FlowModel → Packet → Result (Unit {0}) Misfit
packet_fits None p = Err misfits.NoFlow
packet_fits (Some f) p = if length_fits f p.length then Ok tt else Err misfits.Unfit

abbrev pub arrival_fits : Option FlowModel → NetModel → ℕ → Arrival → Result (Unit {0}) Misfit
arrival_fits None net switch a = Err misfits.NoFlow
arrival_fits (Some f) net switch a =
    if length_fits f a.packet.length && port_fits f net switch a.port then Ok tt else Err misfits.Unfit

-- 11: the memories of a whole net are at most 4,194,304 ticks together
abbrev pub too_much : Program → NetModel → Bool
too_much programs.Admit net = false
too_much programs.Ports net = false
too_much programs.Evening net = nat_lt 4194304 (together net.memories)

abbrev pub take_net : Standing → NetModel → Done
take_net s net =
    cond (too_much s.program net) (refuse s names.Net causes.Memories)
    (Some (lines.Net (length net.ports) (length net.memories)), with_net s net)

-- 10: the clock does not pass its last tick. Ticks, if there are any, end standstill.
abbrev pub take_ticks : Standing → ℕ → Done
take_ticks s count =
    cond (nat_le (s.clock + count) last_tick)
    (None, with_clock s (cond (count == 0) s.stage stages.Running) (s.clock + count))
    (refuse s (names.Record s.records) causes.Clock)

-- what becomes of a record that is read without a fault
abbrev pub take_record : Standing → RecordModel → Done
take_record s (a_switch k) = take_switch s k.number
take_record s (a_net net) = take_net s net
take_record s (a_flow f) = take_flow s f
take_record s (a_packet p) = take_packet s p.flow (packet_fits (flow_numbered s.plan.flows p.flow) p)
take_record s (an_arrival a) =
    take_packet s a.packet.flow (arrival_fits (flow_numbered s.plan.flows a.packet.flow) s.plan.net s.switch a)
take_record s (some_ticks t) = take_ticks s t.count

-- what becomes of any record
abbrev pub becomes : Standing → List ℕ → Verdict RecordModel → Done
becomes s bs (refused number place) = refuse s (name_of s.records s.numbered bs) (causes.Fault (fault_at number place))
becomes s bs (accepted r) = take_record s r

-- the record is counted
abbrev pub counted : List ℕ → Standing → Standing
counted bs s = with_counts s (one_more s.records) (cond (takes_number bs) (one_more s.numbered) s.numbered)

-- what a record is read as where the program stands
abbrev pub read_as : Standing → Extent → Verdict RecordModel
read_as s e = record_here s.program s.stage s.plan.net (least_switches s.program s.switch) e.whole e.bytes

-- one record, by what it is read as: what is said of it, and where the program stands then
abbrev pub step_as : Standing → List ℕ → Verdict RecordModel → Done
step_as s bs v =
    let done = becomes s bs v in
    (done.0, counted bs done.1)

abbrev pub step : Standing → Extent → Done
step s e = step_as s e.bytes (read_as s e)

-- where the program stands after a row of records
unfoldable pub after_all : Standing → List Extent → Standing
after_all s [] = s
after_all s (e ∷ es) = after_all (step s e).1 es

-- what a program says at the end, if it plays
abbrev pub closing : Standing → List Line
closing s = if plays s.program then lines.Clock s.clock ∷ lines.Counts s.no_flow s.others ∷ [] else []
