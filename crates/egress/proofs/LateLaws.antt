-- Who has not left has time still. Assumes nothing.
use Rattle.std.proofs.Common.{◌≡◌, ℕ, zero, suc, ◌+◌, ◌<◌, ◌≤◌, Bool, true, eqb, List, [], ◌∷◌, ◌++◌, map, length, get_or, Some, None, Option, sym, refl, ap, ◌∙◌, subst, inl, inr, arith}
use Rattle.std.specs.List.{AllByRecursion as Each}
use Rattle.std.proofs.lemmas.Bool.{cases_Bool, eqb-true}
use Rattle.promises.specs.Promises.{promise}
use Rattle.flows.specs.Flow.{FlowModel}
use Rattle.lines.specs.declared.packet.Packet.{Packet}
use Rattle.gates.specs.Gates.{class_of}
use Rattle.port.specs.Port as port
use Rattle.port.specs.Port.{flow_at, queue_of}
use Rattle.port.specs.Laws.{HasTime}
use Rattle.port.proofs.TickLaws.{Proper, InTime}
use Rattle.port.proofs.PortLaws.{run-kept, nobody_late as port-late}
use Rattle.machine.specs.declared.sending.Sending.{Sending}
use Rattle.machine.specs.Joint.{BareSending, bare, bare_of, sent, sent_of}
use Rattle.machine.proofs.JointLaws.{line-map}
use Rattle.machine.proofs.RunLaws.{goes_as_port}
use Rattle.egress.specs.Plays.{Setup}
use Rattle.egress.specs.Histories.{being_sent, left_in, left_at, entered_at}
use Rattle.egress.specs.Laws.{NobodyLate}
use Rattle.egress.proofs.GoesLaws.{goes_on}
use Rattle.egress.proofs.PlaceLaws.{each-both}
use Rattle.egress.proofs.LostLaws.{nobody_lost}
use Rattle.egress.proofs.InTimeLaws.{marking, marking-enough, edge_of, Its, sends_its, Timely, timely, twin}

-- each packet is marked
abbrev every : ℕ → Bool
every k = true

-- it has more than this tick
abbrev HasMore : ℕ → ℕ → Packet → Type 0
HasMore t most w = t < w.edge + most

waiting_more : (p : ℕ) (fs : List FlowModel) (c t now : ℕ) (ws : List Packet) (xs : List port.Packet) → t ≡ now → map (bare every) ws ≡ map (bare_of every) xs →
    Each (HasTime p fs now) xs → Each (Proper p fs c) xs → Each (HasMore t (promise p c fs)) ws
waiting_more p fs c t now [] xs tick same time proper = tt
waiting_more p fs c t now (w ∷ ws) [] tick same time proper = cc
waiting_more p fs c t now (w ∷ ws) (x ∷ xs) tick same time proper =
    let first : bare every w ≡ bare_of every x = cc in
    let others : map (bare every) ws ≡ map (bare_of every) xs = cc in
    let into : w.edge ≡ x.into = ap (λ b. b.into) first in
    let some = proper.0.some in
    let due : promise p (flow_at fs x.flow).class fs ≡ promise p c fs = ap (λ d. promise p d fs) proper.0.class in
    (omega (arith, time.0), waiting_more p fs c t now ws xs tick others time.1 proper.1)

sending_more : (a : Setup) (class t now : ℕ) (o : Option Sending) (y : Option port.Sending) → t ≡ now → sent every o ≡ sent_of every y → InTime a.port a.flows now y → Its a o →
    Each (HasMore t (promise a.port class a.flows)) (being_sent a.classes class o)
sending_more a class t now None y tick same time its = tt
sending_more a class t now (Some x) None tick same time its = cc
sending_more a class t now (Some x) (Some y) tick same time its =
    elim (cases_Bool (eqb (class_of a.classes x.packet) class)) [
      | inl here ↦
          let both : ◌≡◌ {A = BareSending} (record { packet = bare every x.packet; until = x.until }) (record { packet = bare_of every y.packet; until = y.until }) = cc in
          let into : x.packet.edge ≡ y.packet.into = ap (λ b. b.packet.into) both in
          let flow : x.packet.flow ≡ y.packet.flow = ap (λ b. b.packet.flow) both in
          let of : (flow_at a.flows y.packet.flow).class ≡ class =
          ap (λ k. (flow_at a.flows k).class) (sym flow) ∙ its ∙ eqb-true (class_of a.classes x.packet) class here in
          let due : promise a.port (flow_at a.flows y.packet.flow).class a.flows ≡ promise a.port class a.flows = ap (λ d. promise a.port d a.flows) of in
          rw here (omega (arith, time.0, time.1), tt)
      | inr not ↦ rw not tt
    ]

-- behind those who left
more_at : (t most : ℕ) (ws rest : List Packet) (n : ℕ) → Each (HasMore t most) rest → length ws ≤ n → n < length (map edge_of (ws ++ rest)) →
    t < get_or (map edge_of (ws ++ rest)) n 0 + most
more_at t most [] [] n each above within = absurd (omega arith)
more_at t most [] (w ∷ rest) zero each above within = each.0
more_at t most [] (w ∷ rest) (suc n) each above within = more_at t most [] rest n each.1 (omega arith) (omega arith)
more_at t most (w ∷ ws) rest zero each above within = absurd (omega arith)
more_at t most (w ∷ ws) rest (suc n) each above within = more_at t most ws rest n each (omega arith) (omega arith)

timely-length : (most : ℕ) (ts : List ℕ) (ws : List Packet) → Timely most ts ws → length ts ≡ length ws
timely-length most [] [] timely = refl
timely-length most [] (w ∷ ws) timely = absurd timely
timely-length most (t ∷ ts) [] timely = absurd timely
timely-length most (t ∷ ts) (w ∷ ws) timely = ap suc (timely-length most ts ws timely.1)

pub nobody_late : NobodyLate
nobody_late a m e plays class n enough low above within =
    let it = twin a m e plays enough in
    let also = marking-enough a enough in
    let there = goes_as_port every a.port a.flows a.room a.classes it.state.machine (goes_on (marking a) m it.state also it.run).reached in
    let kept = run-kept a.port a.flows there.port enough.within there.run in
    let line = get_or it.state.machine.queues class [] in
    let waiting = waiting_more a.port a.flows class it.state.machine.tick there.port.now line (queue_of there.port.queues class) there.shows.tick
    (sym (line-map (bare every) it.state.machine.queues class) ∙ ap (λ l. get_or l class []) there.shows.queues ∙ line-map (bare_of every) there.port.queues class)
    (port-late a.port class a.flows there.port enough.within there.run).1 (kept.proper class) in
    let sending = sending_more (marking a) class it.state.machine.tick there.port.now it.state.machine.sending there.port.sending there.shows.tick there.shows.sending kept.sends
    (sends_its (marking a) m it.state also it.run) in
    let rest : List Packet = being_sent a.classes class it.state.machine.sending ++ line in
    let each = each-both (HasMore it.state.machine.tick (promise a.port class a.flows)) (being_sent a.classes class it.state.machine.sending) line sending waiting in
    let order = nobody_lost (marking a) m it.state it.run class also low in
    let long = timely-length (promise a.port class a.flows) (left_at (marking a) class it.run) (left_in (marking a) class it.run)
    (timely (marking a) class (λ k. refl) also m it.state it.run) in
    let same : entered_at a class plays ≡ map edge_of (left_in (marking a) class it.run ++ rest) = it.entered class ∙ ap (map edge_of) (sym order) in
    let more = more_at it.state.machine.tick (promise a.port class a.flows) (left_in (marking a) class it.run) rest n each
    (omega (arith, ap length (it.left_too class), long)) (omega (arith, ap length same)) in
    subst (λ es. e.machine.tick < get_or es n 0 + promise a.port class a.flows) (sym same)
    (subst (λ t. t < get_or (map edge_of (left_in (marking a) class it.run ++ rest)) n 0 + promise a.port class a.flows) (sym it.alike.tick) more)
