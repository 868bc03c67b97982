-- A regulator costs nothing. Assumes nothing.
use Rattle.std.proofs.Common.{◌≡◌, ℕ, ◌+◌, ◌<◌, ◌≤◌, List, [], ◌∷◌, ◌++◌, Some, None, Option, sym, refl, subst, inl, inr, arith}
use Rattle.std.specs.List.{AllByRecursion as Each}
use Rattle.std.proofs.ByRecursion.{All-weaker}
use Rattle.flows.specs.Flow.{FlowModel}
use Rattle.pipe.specs.Pipe.{Packet, Passed, PipeModel, Step, enters, comes, passes, ticks, Run, begins, goes, ticked}
use Rattle.pipe.specs.Laws.{OneOf, NoLonger, CostsNothing, WithinBound, NobodyDue, NextRegular, PipeLaws}
use Rattle.pipe.proofs.LineLaws.{one_all, Away, Rising, Front, Due}
use Rattle.pipe.proofs.OrderLaws.{nobody_overtakes, never_stuck}
use Rattle.pipe.proofs.ExampleLaws.{wait-met}
use Rattle.pipe.proofs.StepLaws.{Costless, Kept, empty-kept, tick-kept, come-kept, enter_kept, pass_kept}

step_kept : (fs : List FlowModel) (s t : PipeModel) → Step fs s t → Kept fs s → Kept fs t
step_kept fs s t (enters k len may after) kept = subst (λ x. Kept fs x) (sym after) (enter_kept fs s kept k len may)
step_kept fs s t (comes front w back may after) kept = subst (λ x. Kept fs x) (sym after) (come-kept fs s kept front w back may)
step_kept fs s t (passes w rest came may after) kept = subst (λ x. Kept fs x) (sym after) (pass_kept fs s kept w rest came may)
step_kept fs s t (ticks may after) kept = subst (λ x. Kept fs x) (sym after) (tick-kept fs s kept may)

pub run-kept : (fs : List FlowModel) (s : PipeModel) → Run fs s → Kept fs s
run-kept fs s begins = empty-kept fs
run-kept fs s (goes {s = r} run step) = step_kept fs r s step (run-kept fs r run)

costless-at : (newer : List Passed) (g : Passed) (older : List Passed) → Costless (newer ++ g ∷ older) → OneOf (NoLonger g.at g.packet.sent) (g ∷ older)
costless-at [] g older costless = costless.0
costless-at (x ∷ newer) g older costless = costless-at newer g older costless.1

pub costs_nothing : CostsNothing
costs_nothing fs s newer g older run is = costless-at newer g older (subst (λ gs. Costless gs) is (run-kept fs s run).costless)

-- a packet had come, and has passed, within the bound
abbrev CameIn : ℕ → Passed → Type 0
CameIn bound g = g.came ≤ g.packet.sent + bound

abbrev PassedIn : ℕ → Passed → Type 0
PassedIn bound g = g.at ≤ g.packet.sent + bound

passed_in : (bound : ℕ) (gs : List Passed) → Costless gs → Each (CameIn bound) gs → Each (PassedIn bound) gs
passed_in bound [] costless came = tt
passed_in bound (g ∷ gs) costless came = (
  one_all (CameIn bound) (NoLonger g.at g.packet.sent) (PassedIn bound g) (g ∷ gs) (λ m c n. omega (arith, c, n)) came costless.0,
  passed_in bound gs costless.1 came.1,
)

-- a packet that has come has its time still
abbrev HasTime : ℕ → ℕ → Packet → Type 0
HasTime bound now w = (t : ℕ) → w.came ≡ Some t → now ≤ w.sent + bound

after_first : (bound now low : ℕ) (ws : List Packet) (high : ℕ) → now ≤ low + bound → Rising low ws high → Each (HasTime bound now) ws
after_first bound now low [] high soon rising = tt
after_first bound now low (w ∷ ws) high soon rising =
    let more = rising.0 in
    ((λ t come. omega arith), after_first bound now w.sent ws high (omega arith) rising.1)

waits_in : (bound now : ℕ) (ws : List Packet) (gs : List Passed) (high : ℕ) → Rising 0 ws high → Front ws → Due now gs ws →
    Each (λ w. (t : ℕ) → w.came ≡ Some t → t ≤ w.sent + bound) ws → Each (CameIn bound) gs → Each (HasTime bound now) ws
waits_in bound now [] gs high rising front due came gone = tt
waits_in bound now (w ∷ ws) gs high rising front due came gone = (first, rest w.came refl)
  where
    first : HasTime bound now w
    first t come =
        elim (due t come) [
          | inl soon ↦ omega (arith, soon, came.0 t come)
          | inr one ↦ one_all (CameIn bound) (NoLonger now w.sent) (now ≤ w.sent + bound) gs (λ m c n. omega (arith, c, n)) gone one
        ]

    rest : (o : Option ℕ) → w.came ≡ o → Each (HasTime bound now) ws
    rest None away =
        All-weaker Away (HasTime bound now) (λ v none t come. cc) ws (front.0 away)
    rest (Some t) come = after_first bound now w.sent ws high (first t come) rising.1

pub within_bound : WithinBound
within_bound fs s bound run came =
    let kept = run-kept fs s run in (
      passed_in bound s.passed kept.costless came.gone,
      waits_in bound s.now s.pipe s.passed s.now kept.rising kept.front kept.due came.waits came.gone,
    )

pub nobody_due : NobodyDue
nobody_due fs s bound run came may =
    All-weaker (HasTime bound (s.now + 1)) (λ w. (t : ℕ) → w.came ≡ Some t → s.now < w.sent + bound) (λ w time t come. omega (arith, time t come))
    s.pipe (within_bound fs (ticked s) bound (goes run (ticks may refl)) (record { waits = came.waits; gone = came.gone })).1

pub next-regular : NextRegular
next-regular fs s k run = (run-kept fs s run).regular k

pub pipe_laws : PipeLaws
pipe_laws =
    record { costless = costs_nothing; within = within_bound; due = nobody_due; regular = next-regular; order = nobody_overtakes; moves = never_stuck; met = wait-met }
