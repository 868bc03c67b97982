-- The laws of what becomes of records. Assumes nothing.
use Rattle.std.proofs.Common.{◌≡◌, ℕ, ◌+◌, false, leb, List, Some, None, Option, Ok, Err, Result, refl}
use Rattle.std.proofs.lemmas.Bool.{cond_both}
use Rattle.record_bytes.specs.Reading.{Verdict, accepted, refused, Outcome, closed}
use Rattle.record_bytes.proofs.Sequence.{closed-accepted}
use Rattle.flows.specs.Flow.{FlowModel}
use Rattle.flows.specs.Net.{NetModel}
use Rattle.record_bytes.specs.declared.kind.Kind.{Kind}
use Rattle.record_bytes.specs.declared.kind.Kind.TheVariants as kinds
use Rattle.records.specs.declared.stage.Program.{Program}
use Rattle.records.specs.declared.stage.Program.TheVariants as programs
use Rattle.records.specs.Kinds.{kind_of}
use Rattle.records.specs.Records.{RecordModel, a_switch, a_net, a_flow, a_packet, an_arrival, some_ticks, packet_as, record_as, judged_as}
use Rattle.admission.specs.declared.refusal.Refusal.{Refusal}
use Rattle.admission.specs.Plans.{tested}
use Rattle.admission.specs.Dues.{flow_numbered}
use Rattle.script.specs.declared.line.Name.{Name}
use Rattle.script.specs.declared.line.Cause.{Cause}
use Rattle.script.specs.declared.line.Cause.TheVariants as causes
use Rattle.script.specs.declared.line.Line.TheVariants as lines
use Rattle.script.specs.declared.take.Misfit.{Misfit}
use Rattle.script.specs.declared.take.Misfit.TheVariants as misfits
use Rattle.script.specs.Session.{Standing, Done, name_of, fault_at, take_packet, packet_fits, arrival_fits, take_flow_as, take_net, too_much, take_ticks, last_tick, with_refused, counted, step_as, read_as, least_switches}
use Rattle.script.specs.SessionLaws.{OnlyCounts, RefusedOnlyCounts, CutIsRefused}

module _ (s : Standing) (name : Name) (cause : Cause) where
  -- if the record is refused, only counts change
  abbrev Counts : Done → Type 0
  Counts done = done.0 ≡ Some (lines.Refused name cause) → OnlyCounts s done.1

  counts_more : (no_flow others : ℕ) → OnlyCounts s (with_refused s no_flow others)
  counts_more no_flow others = record { program = refl; stage = refl; switch = refl; plan = refl; clock = refl }

  packet_counts : (flow : ℕ) (fits : Result (Unit {0}) Misfit) → Counts (take_packet s flow fits)
  packet_counts flow (Ok _) e = cc
  packet_counts flow (Err misfits.NoFlow) e = counts_more _ _
  packet_counts flow (Err misfits.Unfit) e = counts_more _ _

  net_counts : (net : NetModel) → Counts (take_net s net)
  net_counts net = cond_both (too_much s.program net) _ _ Counts (λ _ _. counts_more _ _) (λ _ e. cc)

  flow_counts : (f : FlowModel) (r : Option Refusal) → Counts (take_flow_as s f r)
  flow_counts f None e = cc
  flow_counts f (Some r) e = counts_more _ _

  ticks_counts : (count : ℕ) → Counts (take_ticks s count)
  ticks_counts count = cond_both (leb (s.clock + count) last_tick) _ _ Counts (λ _ e. cc) (λ _ _. counts_more _ _)

-- the counts of the record itself
counted_too : (s t : Standing) (bs : List ℕ) → OnlyCounts s t → OnlyCounts s (counted bs t)
counted_too s t bs base =
    record { program = base.program; stage = base.stage; switch = base.switch; plan = base.plan; clock = base.clock }

refused_counts : (s : Standing) (bs : List ℕ) (v : Verdict RecordModel) (name : Name) (cause : Cause) →
    (step_as s bs v).0 ≡ Some (lines.Refused name cause) → OnlyCounts s (step_as s bs v).1
refused_counts s bs (refused number place) name cause e = counted_too s _ bs (counts_more s name cause _ _)
refused_counts s bs (accepted (a_switch k)) name cause e = cc
refused_counts s bs (accepted (a_net net)) name cause e = counted_too s _ bs (net_counts s name cause net e)
refused_counts s bs (accepted (a_flow f)) name cause e =
    counted_too s _ bs (flow_counts s name cause f (tested s.plan (record { number = s.numbered; flow = f })) e)
refused_counts s bs (accepted (a_packet p)) name cause e =
    counted_too s _ bs (packet_counts s name cause p.flow (packet_fits (flow_numbered s.plan.flows p.flow) p) e)
refused_counts s bs (accepted (an_arrival a)) name cause e =
    let fits = arrival_fits (flow_numbered s.plan.flows a.packet.flow) s.plan.net s.switch a in
    counted_too s _ bs (packet_counts s name cause a.packet.flow fits e)
refused_counts s bs (accepted (some_ticks t)) name cause e = counted_too s _ bs (ticks_counts s name cause t.count e)

pub refused_only_counts : RefusedOnlyCounts
refused_only_counts s e name cause is = refused_counts s e.bytes (read_as s e) name cause is

-- no record is accepted inside which the input ends
never-cut : {A : Type 0} (f : A → RecordModel) (o : Outcome A) (r : RecordModel) → judged_as f (closed false o) ≡ accepted r → ⊥
never-cut f o r e = by (closed false o) refl e
  where
    by : (v : Verdict _) → closed false o ≡ v → judged_as f v ≡ accepted r → ⊥
    by (accepted v) is got =
        let whole = (closed-accepted false o v is).3 in
        cc
    by (refused number place) is got = cc

cut_packet : (program : Program) (net : NetModel) (bs : List ℕ) (r : RecordModel) → packet_as program net false bs ≡ accepted r → ⊥
cut_packet programs.Admit net bs r e = never-cut a_packet _ r e
cut_packet programs.Ports net bs r e = never-cut an_arrival _ r e
cut_packet programs.Evening net bs r e = never-cut a_packet _ r e

cut_kind : (program : Program) (kind : Option Kind) (net : NetModel) (least : ℕ) (bs : List ℕ) (r : RecordModel) →
    record_as program kind net least false bs ≡ accepted r → ⊥
cut_kind program None net least bs r e = cc
cut_kind program (Some kinds.Flow) net least bs r e = never-cut a_flow _ r e
cut_kind program (Some kinds.Net) net least bs r e = never-cut a_net _ r e
cut_kind program (Some kinds.Packet) net least bs r e = cut_packet program net bs r e
cut_kind program (Some kinds.Tick) net least bs r e = never-cut some_ticks _ r e
cut_kind program (Some kinds.Switch) net least bs r e = never-cut a_switch _ r e

pub cut_is_refused : CutIsRefused
cut_is_refused s e cut = by (read_as s e) refl
  where
    by : (v : Verdict RecordModel) → read_as s e ≡ v →
        (number place : ℕ) × ((step_as s e.bytes v).0 ≡ Some (lines.Refused (name_of s.records s.numbered e.bytes) (causes.Fault (fault_at number place))))
    by (refused number place) is = (number, place, refl)
    by (accepted r) is =
        absurd (cut_kind s.program (kind_of s.program s.stage e.bytes) s.plan.net (least_switches s.program s.switch) e.bytes r (rw cut at is))
