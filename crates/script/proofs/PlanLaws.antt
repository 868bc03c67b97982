-- What becomes of the plan. Assumes nothing.
use Rattle.std.proofs.Common.{◌≡◌, ℕ, ◌+◌, Bool, true, false, cond, eqb, leb, List, [], ◌∷◌, ◌++◌, Some, None, Option, Ok, Err, Result, sym, refl, ap, ◌∙◌, subst, append_assoc, append-nil}
use Rattle.std.proofs.lemmas.Bool.{cond_both, eq-eqb}
use Rattle.record_bytes.specs.Reading.{Verdict, accepted, refused}
use Rattle.record_bytes.specs.Row.{Extent}
use Rattle.flows.specs.Net.{NetModel}
use Rattle.flows.specs.Flow.{FlowModel}
use Rattle.records.specs.declared.stage.Program.{Program}
use Rattle.records.specs.declared.stage.Program.TheVariants as programs
use Rattle.records.specs.declared.stage.Stage.{Stage}
use Rattle.records.specs.declared.stage.Stage.TheVariants as stages
use Rattle.record_bytes.specs.declared.kind.Kind.{Kind}
use Rattle.record_bytes.specs.declared.kind.Kind.TheVariants as kinds
use Rattle.record_bytes.specs.Kinds.{kind_in}
use Rattle.records.specs.Kinds.{is_known, known, kind_of}
use Rattle.records.specs.Records.{RecordModel, a_switch, a_net, a_flow, a_packet, an_arrival, some_ticks, packet_as, record_as, judged_as}
use Rattle.admission.specs.declared.refusal.Refusal.{Refusal}
use Rattle.admission.specs.Plans.{tested}
use Rattle.admission.specs.Tests.{NumberedModel}
use Rattle.admission.specs.Dues.{flow_numbered}
use Rattle.script.specs.declared.line.Line.TheVariants as lines
use Rattle.script.specs.declared.take.Misfit.{Misfit}
use Rattle.script.specs.declared.take.Misfit.TheVariants as misfits
use Rattle.script.specs.Session.{Standing, Done, least_switches, read_as, step_as, step, after_all, take_packet, packet_fits, arrival_fits, take_flow_as, too_much, take_ticks, last_tick, counted}
use Rattle.script.specs.SessionLaws.{AdmittedStays, PlanSettled}

-- what a kind of record can do to a plan: set it up, add to it, or leave it
data Effect : Type 0 where
  opens : Effect
  adds : Effect
  leaves : Effect

abbrev kind_does : Kind → Effect
kind_does kinds.Flow = adds
kind_does kinds.Net = opens
kind_does kinds.Packet = leaves
kind_does kinds.Tick = leaves
kind_does kinds.Switch = opens

abbrev does : Option Kind → Effect
does None = leaves
does (Some kind) = kind_does kind

abbrev record_does : RecordModel → Effect
record_does (a_switch k) = opens
record_does (a_net net) = opens
record_does (a_flow f) = adds
record_does (a_packet p) = leaves
record_does (an_arrival a) = leaves
record_does (some_ticks t) = leaves

judged_does : {A : Type 0} (f : A → RecordModel) (b : Effect) (v : Verdict A) (r : RecordModel) → ((a : A) → record_does (f a) ≡ b) →
    judged_as f v ≡ accepted r → record_does r ≡ b
judged_does f b (accepted a) r all e = let same : f a ≡ r = cc in ap record_does (sym same) ∙ all a
judged_does f b (refused number place) r all e = cc

packet_does : (program : Program) (net : NetModel) (whole : Bool) (bs : List ℕ) (r : RecordModel) → packet_as program net whole bs ≡ accepted r →
    record_does r ≡ leaves
packet_does programs.Admit net whole bs r e = judged_does a_packet leaves _ r (λ a. refl) e
packet_does programs.Ports net whole bs r e = judged_does an_arrival leaves _ r (λ a. refl) e
packet_does programs.Evening net whole bs r e = judged_does a_packet leaves _ r (λ a. refl) e

record_does_lem : (program : Program) (kind : Option Kind) (net : NetModel) (least : ℕ) (whole : Bool) (bs : List ℕ) (r : RecordModel) →
    record_as program kind net least whole bs ≡ accepted r → record_does r ≡ does kind
record_does_lem program None net least whole bs r e = cc
record_does_lem program (Some kinds.Flow) net least whole bs r e = judged_does a_flow adds _ r (λ a. refl) e
record_does_lem program (Some kinds.Net) net least whole bs r e = judged_does a_net opens _ r (λ a. refl) e
record_does_lem program (Some kinds.Packet) net least whole bs r e = packet_does program net whole bs r e
record_does_lem program (Some kinds.Tick) net least whole bs r e = judged_does some_ticks leaves _ r (λ a. refl) e
record_does_lem program (Some kinds.Switch) net least whole bs r e = judged_does a_switch opens _ r (λ a. refl) e

-- whether records of an effect are known at a stage
abbrev Allowed : Stage → Effect → Type 0
Allowed stages.NoSwitch opens = Unit {0}
Allowed stages.NoSwitch adds = ⊥
Allowed stages.NoSwitch leaves = Unit {0}
Allowed stages.NoNet opens = Unit {0}
Allowed stages.NoNet adds = ⊥
Allowed stages.NoNet leaves = Unit {0}
Allowed stages.Still opens = ⊥
Allowed stages.Still adds = Unit {0}
Allowed stages.Still leaves = Unit {0}
Allowed stages.Running opens = ⊥
Allowed stages.Running adds = ⊥
Allowed stages.Running leaves = Unit {0}

leaving : (stage : Stage) → Allowed stage leaves
leaving stages.NoSwitch = tt
leaving stages.NoNet = tt
leaving stages.Still = tt
leaving stages.Running = tt

kind_allowed : (program : Program) (stage : Stage) (kind : Kind) → is_known program stage kind ≡ true → Allowed stage (kind_does kind)
kind_allowed program stages.Still kinds.Flow e = tt
kind_allowed program stages.NoSwitch kinds.Flow e = cc
kind_allowed program stages.NoNet kinds.Flow e = cc
kind_allowed program stages.Running kinds.Flow e = cc
kind_allowed program stages.NoSwitch kinds.Net e = tt
kind_allowed program stages.NoNet kinds.Net e = tt
kind_allowed program stages.Still kinds.Net e = cc
kind_allowed program stages.Running kinds.Net e = cc
kind_allowed program stages.NoSwitch kinds.Switch e = tt
kind_allowed program stages.NoNet kinds.Switch e = tt
kind_allowed program stages.Still kinds.Switch e = cc
kind_allowed program stages.Running kinds.Switch e = cc
kind_allowed program stage kinds.Packet e = leaving stage
kind_allowed program stage kinds.Tick e = leaving stage

known_allowed : (program : Program) (stage : Stage) (kind : Option Kind) → Allowed stage (does (known program stage kind))
known_allowed program stage None = leaving stage
known_allowed program stage (Some kind) =
    cond_both (is_known program stage kind) _ _ (λ k. Allowed stage (does k)) (kind_allowed program stage kind) (λ _. leaving stage)

read-allowed : (s : Standing) (e : Extent) (r : RecordModel) → read_as s e ≡ accepted r → Allowed s.stage (record_does r)
read-allowed s e r is =
    let kind = kind_of s.program s.stage e.bytes in
    subst (Allowed s.stage) (sym (record_does_lem s.program kind s.plan.net (least_switches s.program s.switch) e.whole e.bytes r is))
    (known_allowed s.program s.stage (kind_in e.bytes))

-- a net is there, and stays there
abbrev Later : Stage → Type 0
Later stages.NoSwitch = ⊥
Later stages.NoNet = ⊥
Later stages.Still = Unit {0}
Later stages.Running = Unit {0}

-- t comes after s: its net is there, and its flows are those of s and more
pub record After (s t : Standing) : Type 0 where
  pub later : Later t.stage
  pub more : List NumberedModel
  pub grown : t.plan.flows ≡ s.plan.flows ++ more

same_after : (s t : Standing) → Later t.stage → t.plan.flows ≡ s.plan.flows → After s t
same_after s t later same = record { later = later; more = []; grown = same ∙ sym (append-nil s.plan.flows) }

packet-after : (s : Standing) (flow : ℕ) (fits : Result (Unit {0}) Misfit) → Later s.stage → After s (take_packet s flow fits).1
packet-after s flow (Ok _) later = same_after s _ tt refl
packet-after s flow (Err misfits.NoFlow) later = same_after s _ later refl
packet-after s flow (Err misfits.Unfit) later = same_after s _ later refl

flow-after : (s : Standing) (f : FlowModel) (r : Option Refusal) → Later s.stage → After s (take_flow_as s f r).1
flow-after s f None later = record { later = later; more = record { number = s.numbered; flow = f } ∷ []; grown = refl }
flow-after s f (Some r) later = same_after s _ later refl

ticks-after : (s : Standing) (count : ℕ) → Later s.stage → After s (take_ticks s count).1
ticks-after s count later =
    cond_both (leb (s.clock + count) last_tick) _ _ (λ (done : Done). After s done.1) (λ _. same_after s _ (cond_both (eqb count 0) _ _ Later (λ _. later) (λ _. tt)) refl)
    (λ _. same_after s _ later refl)

counted-after : (s t : Standing) (bs : List ℕ) → After s t → After s (counted bs t)
counted-after s t bs after = record { later = after.later; more = after.more; grown = after.grown }

no_opening : (stage : Stage) → Later stage → Allowed stage opens → ⊥
no_opening stages.NoSwitch later allowed = later
no_opening stages.NoNet later allowed = later
no_opening stages.Still later allowed = allowed
no_opening stages.Running later allowed = allowed

step_after : (s : Standing) (e : Extent) → Later s.stage → After s (step s e).1
step_after s e later = by (read_as s e) refl
  where
    by : (v : Verdict RecordModel) → read_as s e ≡ v → After s (step_as s e.bytes v).1
    by (refused number place) is = same_after s _ later refl
    by (accepted (a_switch k)) is = absurd (no_opening s.stage later (read-allowed s e (a_switch k) is))
    by (accepted (a_net net)) is = absurd (no_opening s.stage later (read-allowed s e (a_net net) is))
    by (accepted (a_flow f)) is =
        counted-after s _ e.bytes (flow-after s f (tested s.plan (record { number = s.numbered; flow = f })) later)
    by (accepted (a_packet p)) is =
        counted-after s _ e.bytes (packet-after s p.flow (packet_fits (flow_numbered s.plan.flows p.flow) p) later)
    by (accepted (an_arrival a)) is =
        counted-after s _ e.bytes
        (packet-after s a.packet.flow (arrival_fits (flow_numbered s.plan.flows a.packet.flow) s.plan.net s.switch a) later)
    by (accepted (some_ticks t)) is = counted-after s _ e.bytes (ticks-after s t.count later)

all_after : (s : Standing) (es : List Extent) → Later s.stage → After s (after_all s es)
unfolding after_all
all_after s [] later = same_after s s later refl
all_after s (e ∷ es) later =
    let one = step_after s e later in
    let rest = all_after (step s e).1 es one.later in
    record {
      later = rest.later;
      more = one.more ++ rest.more;
      grown = rest.grown ∙ ap (λ gs. gs ++ rest.more) one.grown ∙ append_assoc s.plan.flows one.more rest.more;
    }

-- a flow that is found is found among more
found-more : (gs more : List NumberedModel) (n : ℕ) (f : FlowModel) → flow_numbered gs n ≡ Some f → flow_numbered (gs ++ more) n ≡ Some f
unfolding flow_numbered
found-more [] more n f is = cc
found-more (g ∷ gs) more n f is = by (eqb g.number n) (found-more gs more n f) is
  where
    by : (b : Bool) → (flow_numbered gs n ≡ Some f → flow_numbered (gs ++ more) n ≡ Some f) → cond b (Some g.flow) (flow_numbered gs n) ≡ Some f → cond b (Some g.flow) (flow_numbered (gs ++ more) n) ≡ Some f
    by true on here = here
    by false on there = on there

found-last : (gs : List NumberedModel) (g : NumberedModel) → (f : FlowModel) × (flow_numbered (gs ++ g ∷ []) g.number ≡ Some f)
unfolding flow_numbered
found-last [] g = (g.flow, rw (eq-eqb g.number g.number refl) refl)
found-last (h ∷ gs) g =
    let Found : Option FlowModel → Type 0 = λ o. (f : FlowModel) × (o ≡ Some f) in
    cond_both (eqb h.number g.number) _ _ Found (λ _. (h.flow, refl)) (λ _. found-last gs g)

adds_later : (stage : Stage) → Allowed stage adds → Later stage
adds_later stages.NoSwitch allowed = allowed
adds_later stages.NoNet allowed = allowed
adds_later stages.Still allowed = tt
adds_later stages.Running allowed = tt

abbrev NotAdmitting : ℕ → Done → Type 0
NotAdmitting n done = done.0 ≡ Some (lines.Admitted n) → ⊥

packet_not : (s : Standing) (flow n : ℕ) (fits : Result (Unit {0}) Misfit) → NotAdmitting n (take_packet s flow fits)
packet_not s flow n (Ok _) e = cc
packet_not s flow n (Err misfits.NoFlow) e = cc
packet_not s flow n (Err misfits.Unfit) e = cc

-- a flow that is admitted is then found, and the net is there
admitted_found : (s : Standing) (e : Extent) (n : ℕ) (v : Verdict RecordModel) → read_as s e ≡ v → (step_as s e.bytes v).0 ≡ Some (lines.Admitted n) →
    Later s.stage × ((f : FlowModel) × (flow_numbered (step_as s e.bytes v).1.plan.flows n ≡ Some f))
admitted_found s e n (refused number place) is said = cc
admitted_found s e n (accepted (a_switch k)) is said = cc
admitted_found s e n (accepted (a_net net)) is said =
    absurd (cond_both (too_much s.program net) _ _ (NotAdmitting n) (λ _ l. cc) (λ _ l. cc) said)
admitted_found s e n (accepted (a_flow f)) is said =
    (adds_later s.stage (read-allowed s e (a_flow f) is), by (tested s.plan (record { number = s.numbered; flow = f })) said)
  where
    by : (r : Option Refusal) → (take_flow_as s f r).0 ≡ Some (lines.Admitted n) →
        (g : FlowModel) × (flow_numbered (take_flow_as s f r).1.plan.flows n ≡ Some g)
    by None l =
        let same : s.numbered ≡ n = cc in
        let found = found-last s.plan.flows (record { number = s.numbered; flow = f }) in
        (found.0, ap (flow_numbered (s.plan.flows ++ record { number = s.numbered; flow = f } ∷ [])) (sym same) ∙ found.1)
    by (Some r) l = cc
admitted_found s e n (accepted (a_packet p)) is said =
    absurd (packet_not s p.flow n (packet_fits (flow_numbered s.plan.flows p.flow) p) said)
admitted_found s e n (accepted (an_arrival a)) is said =
    absurd (packet_not s a.packet.flow n (arrival_fits (flow_numbered s.plan.flows a.packet.flow) s.plan.net s.switch a) said)
admitted_found s e n (accepted (some_ticks t)) is said =
    absurd (cond_both (leb (s.clock + t.count) last_tick) _ _ (NotAdmitting n) (λ _ l. cc) (λ _ l. cc) said)

pub admitted_stays : AdmittedStays
admitted_stays s e n es said =
    let found = admitted_found s e n (read_as s e) refl said in
    let after = all_after (step s e).1 es (step_after s e found.0).later in
    (found.1.0, ap (λ gs. flow_numbered gs n) after.grown ∙ found-more (step s e).1.plan.flows after.more n found.1.0 found.1.1)

-- what is known once standstill has ended leaves the plan as it is
abbrev Runs : Standing → Done → Type 0
Runs s done = (done.1.stage ≡ stages.Running) × (done.1.plan ≡ s.plan)

packet_runs : (s : Standing) (flow : ℕ) (fits : Result (Unit {0}) Misfit) → s.stage ≡ stages.Running → Runs s (take_packet s flow fits)
packet_runs s flow (Ok _) runs = (refl, refl)
packet_runs s flow (Err misfits.NoFlow) runs = (runs, refl)
packet_runs s flow (Err misfits.Unfit) runs = (runs, refl)

ticks_runs : (s : Standing) (count : ℕ) → s.stage ≡ stages.Running → Runs s (take_ticks s count)
ticks_runs s count runs =
    let still = cond_both (eqb count 0) s.stage stages.Running (λ stage. stage ≡ stages.Running) (λ _. runs) (λ _. refl) in
    cond_both (leb (s.clock + count) last_tick) _ _ (Runs s) (λ _. (still, refl)) (λ _. (runs, refl))

step_runs : (s : Standing) (e : Extent) → s.stage ≡ stages.Running → Runs s (step s e)
step_runs s e runs = by (read_as s e) refl
  where
    barred : (r : RecordModel) → read_as s e ≡ accepted r → Allowed stages.Running (record_does r)
    barred r is = subst (λ stage. Allowed stage (record_does r)) runs (read-allowed s e r is)

    by : (v : Verdict RecordModel) → read_as s e ≡ v → Runs s (step_as s e.bytes v)
    by (refused number place) is = (runs, refl)
    by (accepted (a_switch k)) is = absurd (barred (a_switch k) is)
    by (accepted (a_net net)) is = absurd (barred (a_net net) is)
    by (accepted (a_flow f)) is = absurd (barred (a_flow f) is)
    by (accepted (a_packet p)) is = packet_runs s p.flow (packet_fits (flow_numbered s.plan.flows p.flow) p) runs
    by (accepted (an_arrival a)) is =
        packet_runs s a.packet.flow (arrival_fits (flow_numbered s.plan.flows a.packet.flow) s.plan.net s.switch a) runs
    by (accepted (some_ticks t)) is = ticks_runs s t.count runs

pub plan_settled : PlanSettled
unfolding after_all
plan_settled s [] runs = refl
plan_settled s (e ∷ es) runs =
    let one = step_runs s e runs in
    plan_settled (step s e).1 es one.0 ∙ one.1
