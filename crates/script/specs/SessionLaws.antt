-- Laws of what becomes of records. Assumes nothing.
use Rattle.std.specs.Prelude.{◌≡◌, ℕ, false, List, Some}
use Rattle.record_bytes.specs.Row.{Extent}
use Rattle.flows.specs.Flow.{FlowModel}
use Rattle.records.specs.declared.stage.Stage.TheVariants as stages
use Rattle.admission.specs.Dues.{flow_numbered}
use Rattle.script.specs.declared.line.Name.{Name}
use Rattle.script.specs.declared.line.Cause.{Cause}
use Rattle.script.specs.declared.line.Cause.TheVariants as causes
use Rattle.script.specs.declared.line.Line.TheVariants as lines
use Rattle.script.specs.Session.{Standing, name_of, fault_at, step, after_all}

-- t differs from s in counts alone
pub record OnlyCounts (s t : Standing) : Type 0 where
  pub program : t.program ≡ s.program
  pub stage : t.stage ≡ s.stage
  pub switch : t.switch ≡ s.switch
  pub plan : t.plan ≡ s.plan
  pub clock : t.clock ≡ s.clock

-- what is refused changes nothing but counts
abbrev pub RefusedOnlyCounts : Type 0
RefusedOnlyCounts =
    (s : Standing) (e : Extent) (name : Name) (cause : Cause) → (step s e).0 ≡ Some (lines.Refused name cause) → OnlyCounts s (step s e).1

-- a record inside which the input ends is refused for a fault, whatever is there of it
abbrev pub CutIsRefused : Type 0
CutIsRefused =
    (s : Standing) (e : Extent) → e.whole ≡ false →
    (number place : ℕ) × ((step s e).0 ≡ Some (lines.Refused (name_of s.records s.numbered e.bytes) (causes.Fault (fault_at number place))))

-- a flow that is admitted stays among the admitted ones, whatever comes
abbrev pub AdmittedStays : Type 0
AdmittedStays =
    (s : Standing) (e : Extent) (n : ℕ) (es : List Extent) → (step s e).0 ≡ Some (lines.Admitted n) →
    (f : FlowModel) × (flow_numbered (after_all (step s e).1 es).plan.flows n ≡ Some f)

-- once standstill has ended, the plan is settled
abbrev pub PlanSettled : Type 0
PlanSettled = (s : Standing) (es : List Extent) → s.stage ≡ stages.Running → (after_all s es).plan ≡ s.plan
