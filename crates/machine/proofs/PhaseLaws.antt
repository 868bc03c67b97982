-- Opened gates and what the port takes are phases of the machine. Assumes nothing.
use Rattle.std.proofs.Common.{◌≡◌, ℕ, ◌+◌, ◌^◌, ◌<◌, Bool, List, [], ◌∷◌, Some, None, Option, sym, refl, ap, ◌∙◌, subst, inl, inr}
use Rattle.std.proofs.lemmas.Bool.{cases_Bool}
use Rattle.flows.specs.Flow.{FlowModel}
use Rattle.lines.specs.declared.packet.Packet.{Packet}
use Rattle.queues.specs.declared.queues_of.Taken.{Taken}
use Rattle.queues.specs.declared.queues_of.Taken.TheVariants.{Packet as taken, Nothing}
use Rattle.queues.specs.Lines.{taken_from}
use Rattle.queues.proofs.QueueLaws.{queue_laws}
use Rattle.gates.specs.Gates.{may_go, spent_by, queued_by, opened}
use Rattle.machine.specs.declared.sending.Sending.{Sending}
use Rattle.machine.specs.Phases.{begun}
use Rattle.machine.specs.Joint.{MachineModel}
use Rattle.machine.specs.Runs.{Goes, passes, takes, MayTick, after_pass, after_take, after_open, after_taking}
use Rattle.machine.specs.Laws.{OpenGoes, TakeThenTick}

pub open_goes : OpenGoes
unfolding opened
open_goes e p fs room classes s at_edge [] goes all = goes
open_goes e p fs room classes s at_edge (packet ∷ packets) goes all =
    elim (cases_Bool (may_go room classes s.tick packet s.levels s.queues)) [
      | inl may ↦
          let first = passes packet goes (record { fitting = all.0.0; may = may }) in
          let rest = open_goes e p fs room classes (after_pass e classes s packet) at_edge packets first all.1 in
          rw may
          (subst
          (λ b. Goes e p fs room classes (after_open s (opened room at_edge classes s.tick packets (spent_by s.tick packet s.levels) (queued_by b classes s.tick packet s.queues))))
          all.0.1 rest)
      | inr not ↦ rw not goes
    ]

-- nothing is being sent
free-takes : (e : ℕ → Bool) (p : ℕ) (fs : List FlowModel) (room : ℕ) (classes : List ℕ) (s : MachineModel) (v : Taken) →
    Goes e p fs room classes s → s.sending ≡ None → taken_from 0 s.queues ≡ v →
    ((class : ℕ) (packet : Packet) → taken_from 0 s.queues ≡ taken class packet → s.tick + packet.length < 2 ^ 64) →
    Goes e p fs room classes (after_take s) × MayTick (after_take s)
free-takes e p fs room classes s (taken class packet) goes free is below = (
  takes class packet goes (record { free = free; first = is; until = below class packet is }),
  λ none c.
      let some : begun s.tick (taken class packet) ≡ None = ap (begun s.tick) (sym is) ∙ none in
      cc,
)
free-takes e p fs room classes s Nothing goes free is below =
    let empty = queue_laws.nothing s.queues is in
    let idle : begun s.tick (taken_from 0 s.queues) ≡ s.sending = ap (begun s.tick) is ∙ sym free in (
      subst (λ q. Goes e p fs room classes (record { levels = s.levels; queues = q; sending = begun s.tick (taken_from 0 s.queues); tick = s.tick })) (sym empty.0)
          (subst (λ x. Goes e p fs room classes (record { levels = s.levels; queues = s.queues; sending = x; tick = s.tick })) (sym idle) goes),
      λ none c. rw empty.0 (empty.1 c),
    )

pub take_then_tick : TakeThenTick
take_then_tick e p fs room classes s goes below = by s.sending refl
  where
    by : (x : Option Sending) → s.sending ≡ x → Goes e p fs room classes (after_taking s x) × MayTick (after_taking s x)
    by None free = free-takes e p fs room classes s (taken_from 0 s.queues) goes free refl below
    by (Some x) busy = (goes, λ none c. let some : Some x ≡ None = sym busy ∙ none in cc)
