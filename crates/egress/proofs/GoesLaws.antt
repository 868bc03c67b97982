-- Each phase keeps the port in its states, and the regulators hold packets of their kind. Assumes nothing.
use Rattle.std.proofs.Common.{◌≡◌, ℕ, zero, suc, ◌≤◌, Bool, false, List, [], ◌∷◌, map, get_or, set, Some, None, Option, sym, refl, ap, ◌∙◌, subst, inl, inr, arith}
use Rattle.std.specs.List.{AllByRecursion as Each}
use Rattle.std.proofs.ByRecursion.{All-push, All-get_or}
use Rattle.std.proofs.Math.Seq.{map-set_same}
use Rattle.std.proofs.lemmas.Bool.{cases_Bool}
use Rattle.flows.specs.Flow.{FlowModel}
use Rattle.lines.specs.declared.packet.Packet.{Packet}
use Rattle.levels.specs.Levels.{LevelModel}
use Rattle.queues.specs.declared.queues_of.Taken.{Taken}
use Rattle.queues.specs.declared.queues_of.Taken.TheVariants.{Packet as taken, Nothing}
use Rattle.queues.specs.Lines.{taken_from}
use Rattle.queues.proofs.QueueLaws.{first_taken, queue_laws}
use Rattle.gates.specs.Gates.{may_go, spent_by, queued_by, opened}
use Rattle.port.specs.Port as port
use Rattle.port.specs.Port.{flow_at, no_flow, queue_of}
use Rattle.port.proofs.TickLaws.{Proper}
use Rattle.port.proofs.PortLaws.{run-kept}
use Rattle.machine.specs.declared.sending.Sending.{Sending}
use Rattle.machine.specs.Phases.{begun}
use Rattle.machine.specs.Joint.{MachineModel, bare, bare_of}
use Rattle.machine.specs.Runs.{begins as at_beginning, ticks, MayTick, after_open, after_taking, after_take}
use Rattle.machine.proofs.JointLaws.{line-map}
use Rattle.machine.proofs.RunLaws.{goes_as_port, leaves_in_time, queues-kept}
use Rattle.machine.proofs.PhaseLaws.{open_goes, take_then_tick}
use Rattle.egress.specs.Egress.{GateModel, Accepted, no_gate, gate_at, behind, accept, accept_all, open_one, open_all}
use Rattle.egress.specs.Plays.{Setup, Enough, Short, Reached, Belongs, MayCome, empty_gates, left, came, passed, took, begins, comes, passes, takes, leaves}
use Rattle.egress.specs.Laws.{GoesOn, NeverIdle, LeavesInTime, QueuesKept}

module _ (a : Setup) where
  abbrev pub Kind : GateModel → Type 0
  Kind g = Each (Belongs a g.at_edge) g.waits

  abbrev pub edges_of : List GateModel → List Bool
  edges_of gates = map (λ (g : GateModel). g.at_edge) gates

  -- packets come
  put_belongs : (gates : List GateModel) (k : ℕ) (w : Packet) → Each Kind gates → Belongs a (get_or (edges_of gates) k false) w →
      Each Kind (set gates k (behind (gate_at gates k) w))
  put_belongs [] k w each one = tt
  put_belongs (g ∷ gs) zero w each one = (All-push (Belongs a g.at_edge) g.waits w each.0 one, each.1)
  put_belongs (g ∷ gs) (suc k) w each one = (each.0, put_belongs gs k w each.1 one)

  all-come : (cs : List Accepted) (gates : List GateModel) → edges_of gates ≡ a.edges → Each Kind gates → Each (MayCome a) cs →
      (edges_of (accept_all cs gates) ≡ a.edges) × Each Kind (accept_all cs gates)
  unfolding accept_all
  all-come [] gates same each some = (same, each)
  all-come (c ∷ cs) gates same each some =
      all-come cs (accept c gates)
      (map-set_same (λ (g : GateModel). g.at_edge) gates c.gate (behind (gate_at gates c.gate) c.packet) no_gate refl ∙ same)
      (put_belongs gates c.gate c.packet each (subst (λ es. Belongs a (get_or es c.gate false) c.packet) (sym same) some.0.belongs))
      some.1

  -- regulators are opened
  rest_belongs : (at_edge : Bool) (tick : ℕ) (P : Packet → Type 0) (ws : List Packet) (levels : List LevelModel) (ls : List (List Packet)) → Each P ws →
      Each P (opened a.room at_edge a.classes tick ws levels ls).waits
  unfolding opened
  rest_belongs b tick P [] levels ls each = tt
  rest_belongs b tick P (w ∷ ws) levels ls each =
      elim (cases_Bool (may_go a.room a.classes tick w levels ls)) [
        | inl may ↦ rw may (rest_belongs b tick P ws (spent_by tick w levels) (queued_by b a.classes tick w ls) each.1)
        | inr not ↦ rw not each
      ]

  all-open : (gates : List GateModel) (s : MachineModel) → Reached a s → Each Kind gates →
      Reached a (open_all a.room a.classes gates s).machine ×
      (edges_of (open_all a.room a.classes gates s).gates ≡ edges_of gates) ×
      Each Kind (open_all a.room a.classes gates s).gates
  unfolding open_all
  all-open [] s reached each = (reached, refl, tt)
  all-open (g ∷ gs) s reached each =
      let next = open_goes a.enters a.port a.flows a.room a.classes s g.at_edge g.waits reached each.0 in
      let rest = all-open gs (after_open s (open_one a.room a.classes g s)) next each.1 in
      (rest.0, ap (λ es. g.at_edge ∷ es) rest.1, (rest_belongs g.at_edge s.tick (Belongs a g.at_edge) g.waits s.levels s.queues each.0, rest.2))

-- a packet that waits in the queue of a class: its length, and the class of its flow
pub record Queued (fs : List FlowModel) (c : ℕ) (w : Packet) : Type 0 where
  pub some : 1 ≤ w.length
  pub short : w.length ≤ 255
  pub class : (flow_at fs w.flow).class ≡ c

same-queue : (e : ℕ → Bool) (p : ℕ) (fs : List FlowModel) (c : ℕ) (ws : List Packet) (xs : List port.Packet) → Each Short fs →
    map (bare e) ws ≡ map (bare_of e) xs → Each (Proper p fs c) xs → Each (Queued fs c) ws
same-queue e p fs c [] xs short same each = tt
same-queue e p fs c (w ∷ ws) [] short same each = cc
same-queue e p fs c (w ∷ ws) (x ∷ xs) short same each =
    let first : bare e w ≡ bare_of e x = cc in
    let others : map (bare e) ws ≡ map (bare_of e) xs = cc in
    let len : w.length ≡ x.len = ap (λ b. b.len) first in
    let flow : w.flow ≡ x.flow = ap (λ b. b.flow) first in
    let most : (flow_at fs x.flow).longest ≤ 255 = All-get_or Short fs x.flow no_flow each.0.known short in (
      record { some = omega (arith, each.0.some); short = omega (arith, each.0.short); class = ap (λ k. (flow_at fs k).class) flow ∙ each.0.class },
      same-queue e p fs c ws xs short others each.1,
    )

pub each_queued : (a : Setup) (s : MachineModel) → Enough a → Reached a s → (c : ℕ) → Each (Queued a.flows c) (get_or s.queues c [])
each_queued a s enough reached c =
    let it = goes_as_port a.enters a.port a.flows a.room a.classes s reached in
    let kept = run-kept a.port a.flows it.port enough.within it.run in
    same-queue a.enters a.port a.flows c (get_or s.queues c []) (queue_of it.port.queues c) enough.short
    (sym (line-map (bare a.enters) s.queues c) ∙ ap (λ l. get_or l c []) it.shows.queues ∙ line-map (bare_of a.enters) it.port.queues c)
    (kept.proper c)

pub first_queued : (a : Setup) (s : MachineModel) → Enough a → Reached a s → (class : ℕ) (packet : Packet) →
    taken_from 0 s.queues ≡ taken class packet → Queued a.flows class packet
first_queued a s enough reached class packet is =
    let it = first_taken s.queues class packet is in
    (subst (λ l. Each (Queued a.flows class) l) it.line (each_queued a s enough reached class)).0

-- after the port took, the tick may end
by_taken : (s : MachineModel) (v : Taken) → taken_from 0 s.queues ≡ v → MayTick (after_take s)
by_taken s (taken class packet) is none c =
    let some : begun s.tick (taken class packet) ≡ None = ap (begun s.tick) (sym is) ∙ none in
    cc
by_taken s Nothing is none c = let empty = queue_laws.nothing s.queues is in rw empty.0 (empty.1 c)

pub may_tick : (s : MachineModel) (o : Option Sending) → s.sending ≡ o → MayTick (after_taking s o)
may_tick s None is = by_taken s (taken_from 0 s.queues) refl
may_tick s (Some x) is = λ none c. let some : Some x ≡ None = sym is ∙ none in cc

pub never_idle : NeverIdle
never_idle a _ (takes {e = e} plays clock) none c = may_tick e.machine e.machine.sending refl none c

none-belong : (a : Setup) (edges : List Bool) → (edges_of a (empty_gates edges) ≡ edges) × Each (Kind a) (empty_gates edges)
none-belong a [] = (refl, tt)
none-belong a (b ∷ bs) = let rest = none-belong a bs in (ap (λ es. b ∷ es) rest.0, (tt, rest.1))

pub goes_on : GoesOn
goes_on a _ _ enough begins =
    let none = none-belong a a.edges in
    record { reached = at_beginning; edges = none.0; belong = none.1 }
goes_on a _ _ enough (comes {e = e} cs plays some) =
    let sofar = goes_on a left e enough plays in
    let come = all-come a cs e.gates sofar.edges sofar.belong some in
    record { reached = sofar.reached; edges = come.0; belong = come.1 }
goes_on a _ _ enough (passes {e = e} plays) =
    let sofar = goes_on a came e enough plays in
    let opens = all-open a e.gates e.machine sofar.reached sofar.belong in
    record { reached = opens.0; edges = opens.1 ∙ sofar.edges; belong = opens.2 }
goes_on a _ _ enough (takes {e = e} plays clock) =
    let sofar = goes_on a passed e enough plays in
    let takes = take_then_tick a.enters a.port a.flows a.room a.classes e.machine sofar.reached
    (λ class packet is. let it = first_queued a e.machine enough sofar.reached class packet is in omega (arith, it.short)) in
    record { reached = takes.0; edges = sofar.edges; belong = sofar.belong }
goes_on a _ _ enough (leaves {e = e} plays) =
    let sofar = goes_on a took e enough plays in
    record { reached = ticks sofar.reached (never_idle a e plays); edges = sofar.edges; belong = sofar.belong }

pub in_time : LeavesInTime
in_time a cs e packet enough plays enters gone =
    leaves_in_time a.enters a.port a.flows a.room a.classes e.machine packet enough.within (goes_on a took e enough plays).reached enters gone

pub kept_queues : QueuesKept
kept_queues a m e c enough plays =
    queues-kept a.enters a.port a.flows a.room a.classes e.machine c enough.within (goes_on a m e enough plays).reached
