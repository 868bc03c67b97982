-- What leaves a port of the net does so in due time. Assumes nothing.
use Rattle.std.specs.List.{AllByRecursion as Each}
use Rattle.std.proofs.Common.{◌≡◌, ℕ, zero, suc, ◌+◌, ◌-◌, ◌^◌, ◌<◌, ◌≤◌, Bool, true, false, cond, eqb, List, [], ◌∷◌, ◌++◌, map, length, sym, refl, ap, ◌∙◌, subst, inl, inr, arith, length-append}
use Rattle.std.proofs.ByRecursion.{All-get_or}
use Rattle.std.proofs.lemmas.Bool.{cases_lt, eq-eqb}
use Rattle.std.proofs.lemmas.List.{get_or_past}
use Rattle.flows.specs.Net.{NetModel, port_at}
use Rattle.flows.specs.Flow.{FlowModel}
use Rattle.promises.specs.Promises.{due, due_over}
use Rattle.lines.specs.declared.packet.Packet.{Packet}
use Rattle.gates.specs.Gates.{class_of}
use Rattle.machine.specs.declared.leaving.Leaving.{Leaving}
use Rattle.machine.specs.declared.leaving.Leaving.TheVariants.{Gone, Busy, Idle}
use Rattle.machine.specs.Phases.{leaves}
use Rattle.machine.specs.Joint.{MachineModel}
use Rattle.port.specs.Port.{flow_at, no_flow}
use Rattle.egress.specs.Histories.{gone_of, left_in}
use Rattle.egress.specs.Laws.{InDue}
use Rattle.egress.proofs.DueLaws.{back-due}
use Rattle.network.specs.Network.{setup_of, gone, Sourced, net_left, net_run}
use Rattle.network.specs.Admitted.{Admitted}
use Rattle.network.specs.Laws.{EndToEnd, BeforeDeadline, DeliveredInTime}
use Rattle.network.proofs.WireLaws.{row_of, at_the_end}
use Rattle.network.proofs.SetupLaws.{class_there}
use Rattle.network.proofs.TogetherLaws.{lefts, lefts_at, left-is, left-at-is, as_many-left, plays_together}
use Rattle.network.proofs.PlayLaws.{tick_at}
use Rattle.network.proofs.AlongLaws.{along_roads}

-- a flow that has a road is in the list
pub road_some : (fs : List FlowModel) (flow p : ℕ) (before after : List ℕ) → (flow_at fs flow).road ≡ before ++ p ∷ after → flow < length fs
road_some fs flow p before after road =
    elim (cases_lt flow (length fs)) [
      | inl listed ↦ listed
      | inr past ↦
          let none : [] ≡ before ++ p ∷ after = sym (ap (λ (f : FlowModel). f.road) (get_or_past fs flow no_flow past)) ∙ road in
          absurd (omega (arith, ap length none, length-append before (p ∷ after)))
    ]

-- of a packet that is gone
first-due : (flow most t : ℕ) (w : Packet) (b : Bool) → b ≡ true → InDue flow most (cond b (w ∷ []) []) (map (λ (_ : Packet). t) (cond b (w ∷ []) [])) → w.flow ≡ flow → t ≤ w.edge + most
first-due flow most t w true is in_due its = in_due.0 its
first-due flow most t w false is in_due its = cc

pub end_to_end : EndToEnd
unfolding lefts lefts_at net_left plays_together
end_to_end net fs rows t p w before after admitted in_time road gone =
    let listed = road_some fs w.flow p before after road in
    let f : FlowModel = flow_at fs w.flow in
    let most : ℕ = due_over net fs (flow_at fs w.flow).class (before ++ p ∷ []) in
    let tick : ((net_run net fs rows t).port p).machine.tick + 1 ≡ t + 1 = tick_at net fs admitted.sound rows (suc t) p ∙ omega arith in
    let all : InDue w.flow most (lefts net fs admitted.sound admitted.fits rows admitted.sources f.class p (suc t)) (lefts_at net fs admitted.sound admitted.fits rows admitted.sources f.class p (suc t)) =
    subst (λ ws. InDue w.flow most ws (lefts_at net fs admitted.sound admitted.fits rows admitted.sources f.class p (suc t)))
    (left-is net fs admitted.sound admitted.fits rows admitted.sources (suc t) (omega arith) f.class p (suc t) (omega arith))
    (subst (InDue w.flow most (left_in (setup_of net fs p) f.class ((plays_together net fs rows (suc t) admitted (omega arith)).plays (suc t) p (omega arith))))
    (left-at-is net fs admitted.sound admitted.fits rows admitted.sources (suc t) (omega arith) f.class p (suc t) (omega arith))
    (along_roads net fs (suc t) (λ t p. (net_left net fs rows t).port p) (plays_together net fs rows (suc t) admitted (omega arith)) admitted.sound admitted.fits (suc t) w.flow p before after (omega arith) listed road)) in
    let m : MachineModel = ((net_run net fs rows t).port p).machine in
    let classes : List ℕ = (setup_of net fs p).classes in
    let new : List Packet = gone_of classes f.class (leaves (m.tick + 1) m.sending) in
    let last = back-due w.flow most (lefts net fs admitted.sound admitted.fits rows admitted.sources f.class p t) new
    (lefts_at net fs admitted.sound admitted.fits rows admitted.sources f.class p t) (map (λ (_ : Packet). m.tick + 1) new)
    (as_many-left net fs admitted.sound admitted.fits rows admitted.sources f.class p t) all in
    let now : leaves (m.tick + 1) m.sending ≡ Gone w = ap (λ n. leaves n m.sending) tick ∙ gone in
    let one = subst (λ l. InDue w.flow most (gone_of classes f.class l) (map (λ (_ : Packet). m.tick + 1) (gone_of classes f.class l))) now last in
    let done = first-due w.flow most (m.tick + 1) w (eqb (class_of classes w) f.class) (eq-eqb (class_of classes w) f.class (class_there fs w.flow listed)) one refl in
    omega (arith, tick, done)

pub before_deadline : BeforeDeadline
before_deadline net fs rows t p w before admitted in_time road gone =
    let listed = road_some fs w.flow p before [] road in
    let done = end_to_end net fs rows t p w before [] admitted in_time road gone in
    let most : due net fs (flow_at fs w.flow) ≤ (flow_at fs w.flow).deadline =
    All-get_or (λ f. due net fs f ≤ f.deadline) fs w.flow no_flow listed admitted.fits.punctual in
    omega (arith, done, most, ap (due_over net fs (flow_at fs w.flow).class) road)

-- a packet that is at the end of its last wire left as many ticks sooner
module _ (net : NetModel) (fs : List FlowModel) (rows : ℕ → List Sourced) (t p : ℕ) (admitted : Admitted net fs rows) (in_time : t + 255 < 2 ^ 64) where
  abbrev InTime : Packet → Type 0
  InTime w = (before : List ℕ) → (flow_at fs w.flow).road ≡ before ++ p ∷ [] → t ≤ w.edge + due net fs (flow_at fs w.flow) + (port_at net p).wire

  gone_then : (s : ℕ) → t - (port_at net p).wire ≡ suc s → (l : Leaving) → leaves (((net_run net fs rows s).port p).machine.tick + 1) ((net_run net fs rows s).port p).machine.sending ≡ l →
      Each InTime (gone l)
  unfolding gone net_left
  gone_then s is (Gone w) now = (
    λ before road.
        let tick : s + 1 ≡ ((net_run net fs rows s).port p).machine.tick + 1 = omega (arith, tick_at net fs admitted.sound rows (suc s) p) in
        let left : s + 1 ≤ w.edge + due_over net fs (flow_at fs w.flow).class (before ++ p ∷ []) =
        end_to_end net fs rows s p w before [] admitted (omega (arith, is, in_time)) road (ap (λ n. leaves n ((net_run net fs rows s).port p).machine.sending) tick ∙ now) in
        omega (arith, left, is, ap (due_over net fs (flow_at fs w.flow).class) road),
    tt,
  )
  gone_then s is (Busy x) now = tt
  gone_then s is Idle now = tt

  left_then : (s : ℕ) → t - (port_at net p).wire ≡ s → Each InTime (row_of net fs rows p s)
  unfolding row_of
  left_then zero is = tt
  left_then (suc s) is = gone_then s is (leaves (((net_run net fs rows s).port p).machine.tick + 1) ((net_run net fs rows s).port p).machine.sending) refl

pub delivered_in_time : DeliveredInTime
delivered_in_time net fs rows t p admitted in_time =
    subst (Each (InTime net fs rows t p admitted in_time)) (sym (at_the_end net fs rows p t)) (left_then net fs rows t p admitted in_time (t - (port_at net p).wire) refl)
