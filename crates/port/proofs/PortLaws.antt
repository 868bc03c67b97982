-- A port keeps its promise, and its queues keep within what they need. Assumes nothing.
use Rattle.std.proofs.Common.{ℕ, ◌+◌, ◌<◌, List, ◌++◌, length, Some, None, Option, sym, refl, ap, ◌∙◌, subst, add-one, arith}
use Rattle.std.specs.List.{AllByRecursion as Each}
use Rattle.std.proofs.ByRecursion.{All-get_or}
use Rattle.flows.specs.Flow.{FlowModel}
use Rattle.promises.specs.Laws.{Classed}
use Rattle.port.specs.Port.{Sending, PortModel, Step, passes, takes, ticks, Run, begins, goes, no_flow, flow_at, queue_of, leaving, of_class, gone_of, line_of, passes_of}
use Rattle.port.specs.Laws.{Within, Punctual, PortLaws, PortPunctual, NobodyLate, QueuesBounded, NobodyOvertakes}
use Rattle.port.proofs.OwedLaws.{owed_class, owed_bursts}
use Rattle.port.proofs.TickLaws.{Proper, InTime, Kept, none_in, empty-kept, tick-kept}
use Rattle.port.proofs.TakeLaws.{held, line_served, take-kept}
use Rattle.port.proofs.PassLaws.{pass_kept}
use Rattle.port.proofs.ExampleLaws.{promise-met}
use Rattle.port.proofs.OrderLaws.{tick-row, take_row, pass_row, never_stuck}

-- what every step keeps, of a state
abbrev KeptAt : ℕ → List FlowModel → PortModel → Type 0
KeptAt p fs s = Kept p fs s.now s.queues s.sending s.levels s.gone

step_kept : (p : ℕ) (fs : List FlowModel) (s t : PortModel) → Within p fs → Step p fs s t → KeptAt p fs s → KeptAt p fs t
step_kept p fs s t within (passes k len may after) kept =
    subst (λ x. KeptAt p fs x) (sym after)
    (pass_kept p fs within s.now s.queues s.levels s.gone s.sending k len
    may.known may.crosses may.some may.short may.regular kept)
step_kept p fs s t within (takes c w rest may after) kept =
    subst (λ x. KeptAt p fs x) (sym after)
    (take-kept p fs within s.now s.queues s.levels s.gone c w rest may.first may.lowest
    (subst (λ o. Kept p fs s.now s.queues o s.levels s.gone) may.free kept))
step_kept p fs s t within (ticks may after) kept =
    subst (λ x. KeptAt p fs x) (sym after)
    (tick-kept p fs within s.now s.queues s.levels s.gone s.sending may kept)

pub run-kept : (p : ℕ) (fs : List FlowModel) (s : PortModel) → Within p fs → Run p fs s → KeptAt p fs s
run-kept p fs s within begins = empty-kept p fs
run-kept p fs s within (goes {s = r} run step) = step_kept p fs r s within step (run-kept p fs r within run)

pub port-punctual : PortPunctual
port-punctual p fs s within run = (run-kept p fs s within run).punctual

pub queues-bounded : QueuesBounded
queues-bounded p c fs s within run =
    let kept = run-kept p fs s within run in
    let waits = kept.waits c in
    let class = owed_class p c s.now fs s.levels kept.capped in
    let most = owed_bursts p c s.now fs s.levels kept.capped in
    rw add-one (omega arith)

pub nobody_late : NobodyLate
nobody_late p c fs s within run =
    let kept = run-kept p fs s within run in
    (leaves s.sending kept.sends, line_served p fs s.now c _ s.levels (queue_of s.queues c) within kept.capped (kept.proper c) (kept.lines c))
  where
    leaves : (o : Option Sending) → InTime p fs s.now o → Each (Punctual p fs) (leaving o)
    leaves None due = tt
    leaves (Some x) due = (due.1, tt)

pub nobody_overtakes : NobodyOvertakes
unfolding gone_of passes_of
nobody_overtakes p c fs s within begins = none_in 8 c
nobody_overtakes p c fs s within (goes {s = r} run (passes k len may after)) =
    let kept = run-kept p fs r within run in
    let known : (flow_at fs k).class < length r.queues =
    omega (arith, kept.eight, All-get_or Classed fs k no_flow may.known within.classed) in
    ap (λ x. line_of fs c x) after
    ∙ pass_row fs c r.queues r.gone (flow_at fs k).class (record { flow = k; len = len; into = r.now }) r.sending known refl
    ∙ ap (λ ws. ws ++ of_class fs c (record { flow = k; len = len; into = r.now })) (nobody_overtakes p c fs r within run)
nobody_overtakes p c fs s within (goes {s = r} run (takes d w rest may after)) =
    let proper : Proper p fs d w × Each (Proper p fs d) rest =
    subst (λ q. Each (Proper p fs d) q) may.first ((run-kept p fs r within run).proper d) in
    ap (λ x. line_of fs c x) after
    ∙ take_row fs c r.queues r.gone d w rest (r.now + w.len) (held d w rest r.queues may.first) may.first proper.0.class
    ∙ ap (λ o. gone_of fs c r.gone ++ (gone_of fs c (leaving o) ++ queue_of r.queues c)) (sym may.free)
    ∙ nobody_overtakes p c fs r within run
nobody_overtakes p c fs s within (goes {s = r} run (ticks may after)) =
    ap (λ x. line_of fs c x) after ∙ tick-row fs c r.queues r.gone (r.now + 1) r.sending ∙ nobody_overtakes p c fs r within run

pub port_laws : PortLaws
port_laws = record { punctual = port-punctual; late = nobody_late; bounded = queues-bounded; order = nobody_overtakes; moves = never_stuck; met = promise-met }
