-- Whole ticks, and what a port takes in them. Assumes nothing.
use Rattle.std.proofs.Common.{◌≡◌, ℕ, ◌+◌, ◌^◌, ◌<◌, ◌≤◌, List, [], ◌∷◌, length, Some, None, Option, sym, refl, ap, ◌∙◌, subst, arith}
use Rattle.std.specs.List.{AllByRecursion as Each}
use Rattle.lines.specs.declared.packet.Packet.{Packet}
use Rattle.queues.specs.declared.queues_of.Taken.{Taken}
use Rattle.queues.specs.declared.queues_of.Taken.TheVariants.{Packet as taken, Nothing}
use Rattle.queues.specs.Lines.{taken_from, left_by}
use Rattle.queues.proofs.QueueLaws.{first_taken}
use Rattle.machine.specs.declared.sending.Sending.{Sending}
use Rattle.machine.specs.Phases.{begun, last_bit}
use Rattle.machine.specs.Joint.{MachineModel}
use Rattle.machine.specs.Runs.{after_open, after_taking}
use Rattle.egress.specs.Egress.{GateModel, EgressModel, Accepted, open_one, open_all, leave_phase, come_phase, pass_phase, then_phases, after_ticks}
use Rattle.egress.specs.Plays.{Setup, MayCome, left, passed, took, Plays, begins, comes, passes, takes, leaves, at_start}
use Rattle.egress.specs.Laws.{TicksPlay, TakesFirst, LowestFirst}
use Rattle.egress.proofs.GoesLaws.{first_queued, goes_on}

-- the tick and what is being sent stay
pub same_tick : (room : ℕ) (classes : List ℕ) (gates : List GateModel) (s : MachineModel) → (open_all room classes gates s).machine.tick ≡ s.tick
unfolding open_all
same_tick room classes [] s = refl
same_tick room classes (g ∷ gs) s = same_tick room classes gs (after_open s (open_one room classes g s))

pub same_sending : (room : ℕ) (classes : List ℕ) (gates : List GateModel) (s : MachineModel) → (open_all room classes gates s).machine.sending ≡ s.sending
unfolding open_all
same_sending room classes [] s = refl
same_sending room classes (g ∷ gs) s = same_sending room classes gs (after_open s (open_one room classes g s))

pub taking_tick : (s : MachineModel) (o : Option Sending) → (after_taking s o).tick ≡ s.tick
taking_tick s None = refl
taking_tick s (Some x) = refl

module _ (a : Setup) where
  phases-tick : (cs : List Accepted) (e : EgressModel) → (then_phases a.room a.classes cs e).machine.tick ≡ e.machine.tick
  phases-tick cs e =
      let opens = pass_phase a.room a.classes (come_phase cs e) in
      taking_tick opens.machine opens.machine.sending ∙ same_tick a.room a.classes (come_phase cs e).gates e.machine

  phases_play : (cs : List Accepted) (e : EgressModel) → Plays a left e → Each (MayCome a) cs → e.machine.tick + 255 < 2 ^ 64 →
      Plays a took (then_phases a.room a.classes cs e)
  phases_play cs e plays some clock =
      takes (passes (comes cs plays some)) (omega (arith, same_tick a.room a.classes (come_phase cs e).gates e.machine))

  row-plays : (css : List (List Accepted)) (e : EgressModel) → Plays a took e → Each (Each (MayCome a)) css → e.machine.tick + length css + 255 < 2 ^ 64 →
      Plays a took (after_ticks a.room a.classes css e)
  unfolding after_ticks
  row-plays [] e plays some clock = plays
  row-plays (cs ∷ css) e plays some clock =
      row-plays css (then_phases a.room a.classes cs (leave_phase e))
      (phases_play cs (leave_phase e) (leaves plays) some.0 (omega arith)) some.1
      (omega (arith, phases-tick cs (leave_phase e)))

pub ticks-play : TicksPlay
ticks-play a cs css first some clock =
    row-plays a css (then_phases a.room a.classes cs (at_start a))
    (phases_play a cs (at_start a) begins first (omega arith)) some
    (omega (arith, phases-tick a cs (at_start a)))

-- what is taken
taken_is : (s : MachineModel) (x : Sending) (v : Taken) → s.tick + 255 < 2 ^ 64 → taken_from 0 s.queues ≡ v → begun s.tick v ≡ Some x →
    ((class : ℕ) (packet : Packet) → taken_from 0 s.queues ≡ taken class packet → packet.length ≤ 255) →
    (after : MachineModel) → after.queues ≡ left_by s.queues → TakesFirst s after x
taken_is s x (taken class packet) clock is begin short after same =
    let it : x ≡ record { packet = packet; until = last_bit s.tick packet.length } = cc in
    subst (λ y. TakesFirst s after y) (sym it)
    (record {
      class = class;
      first = first_taken s.queues class packet is;
      until = let most = short class packet is in omega arith;
      left = same;
    })
taken_is s x Nothing clock is begin short after same = cc

pub lowest_first : LowestFirst
lowest_first a e x enough plays clock free took_it =
    taken_is e.machine x (taken_from 0 e.machine.queues) clock refl
    (sym (ap (λ o. (after_taking e.machine o).sending) free) ∙ took_it)
    (λ class packet is. (first_queued a e.machine enough (goes_on a passed e enough plays).reached class packet is).short)
    (after_taking e.machine e.machine.sending)
    (ap (λ o. (after_taking e.machine o).queues) free)
