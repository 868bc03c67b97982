-- What the code does at one port is a run of the port. Assumes nothing.
use Rattle.std.proofs.Common.{◌≡◌, ℕ, zero, suc, ◌+◌, ◌≤◌, Bool, true, cond, eqb, List, [], ◌∷◌, map, get_or, Some, None, Option, sym, refl, ap, ◌∙◌, subst, inl, inr, arith}
use Rattle.std.specs.List.{AllByRecursion as Each}
use Rattle.std.proofs.lemmas.Bool.{cases_Bool, eqb-true}
use Rattle.flows.specs.Flow.{FlowModel}
use Rattle.promises.specs.Promises.{promise}
use Rattle.lines.specs.declared.packet.Packet.{Packet}
use Rattle.queues.specs.Lines.{ticks_of, sum_to}
use Rattle.port.specs.Port as port
use Rattle.port.specs.Port.{PortModel, Run, flow_at, leaving, queue_of, waiting_below, ticks_of as port_ticks}
use Rattle.port.specs.Laws.{Punctual}
use Rattle.port.proofs.PortLaws.{nobody_late, queues-bounded}
use Rattle.machine.specs.declared.sending.Sending.{Sending}
use Rattle.machine.specs.declared.leaving.Leaving.TheVariants.{Gone, Busy}
use Rattle.machine.specs.Phases.{leaves}
use Rattle.machine.specs.Joint.{BareSending, bare, bare_of, sent, sent_of, MachineModel}
use Rattle.machine.specs.Runs.{begins, passes, takes, ticks}
use Rattle.machine.specs.Laws.{StepTo, RunTo, GoesAsPort, LeavesInTime, QueuesKept}
use Rattle.machine.proofs.JointLaws.{begins-empty, pass_is_pass, take_is_take, tick_is_tick, line-map}

one_more : (e : ℕ → Bool) (p : ℕ) (fs : List FlowModel) (m : PortModel) (s : MachineModel) → Run p fs m → StepTo e p fs m s → RunTo e p fs s
one_more e p fs m s run to = record { port = to.next; run = port.goes run to.step; shows = to.shows }

pub goes_as_port : GoesAsPort
goes_as_port e p fs room classes _ begins = record { port = port.empty fs; run = port.begins; shows = begins-empty e fs }
goes_as_port e p fs room classes _ (passes {s = s} packet goes may) =
    let sofar = goes_as_port e p fs room classes s goes in
    one_more e p fs sofar.port _ sofar.run (pass_is_pass e p fs room classes s sofar.port packet sofar.shows may)
goes_as_port e p fs room classes _ (takes {s = s} class packet goes may) =
    let sofar = goes_as_port e p fs room classes s goes in
    one_more e p fs sofar.port _ sofar.run (take_is_take e p fs s sofar.port class packet sofar.shows may)
goes_as_port e p fs room classes _ (ticks {s = s} goes may) =
    let sofar = goes_as_port e p fs room classes s goes in
    one_more e p fs sofar.port _ sofar.run (tick_is_tick e p fs s sofar.port sofar.shows may)

-- what leaves here was being sent there, and is in time there
left_in_time : (e : ℕ → Bool) (p : ℕ) (fs : List FlowModel) (t : ℕ) (x : Option Sending) (y : Option port.Sending) (packet : Packet) →
    sent e x ≡ sent_of e y → Each (Punctual p fs) (leaving y) → e packet.flow ≡ true → leaves t x ≡ Gone packet →
    t ≤ packet.edge + promise p (flow_at fs packet.flow).class fs
left_in_time e p fs t None y packet is punctual enters gone = cc
left_in_time e p fs t (Some x) None packet is punctual enters gone = cc
left_in_time e p fs t (Some x) (Some y) packet is punctual enters gone =
    elim (cases_Bool (eqb x.until t)) [
      | inl now ↦
          let here : Gone x.packet ≡ Gone packet = rw now at gone in
          let it : x.packet ≡ packet = cc in
          let same : ◌≡◌ {A = BareSending} (record { packet = bare e x.packet; until = x.until }) (record { packet = bare_of e y.packet; until = y.until }) = cc in
          let until : x.until ≡ y.until = ap (λ b. b.until) same in
          let flow : x.packet.flow ≡ y.packet.flow = ap (λ b. b.packet.flow) same in
          let enters-here : e x.packet.flow ≡ true = ap (λ w. e w.flow) it ∙ enters in
          let enters-there : e y.packet.flow ≡ true = ap e (sym flow) ∙ enters-here in
          let marks : cond (e x.packet.flow) x.packet.edge 0 ≡ cond (e y.packet.flow) y.packet.into 0 = ap (λ b. b.packet.into) same in
          let into : x.packet.edge ≡ y.packet.into = rw (enters-here, enters-there) at marks in
          let due : promise p (flow_at fs x.packet.flow).class fs ≡ promise p (flow_at fs y.packet.flow).class fs =
          ap (λ k. promise p (flow_at fs k).class fs) flow in
          let tick : x.until ≡ t = eqb-true x.until t now in
          subst (λ w. t ≤ w.edge + promise p (flow_at fs w.flow).class fs) it (omega (arith, until, into, due, tick, punctual.0))
      | inr on ↦
          let here : Busy x ≡ Gone packet = rw on at gone in
          cc
    ]

pub leaves_in_time : LeavesInTime
leaves_in_time e p fs room classes s packet within goes enters gone =
    let it = goes_as_port e p fs room classes s goes in
    left_in_time e p fs (s.tick + 1) s.sending it.port.sending packet it.shows.sending
    (nobody_late p 0 fs it.port within it.run).0 enters gone

-- as many ticks wait here as there
same_ticks : (e : ℕ → Bool) (line : List Packet) (queue : List port.Packet) → map (bare e) line ≡ map (bare_of e) queue → ticks_of line ≡ port_ticks queue
unfolding ticks_of port_ticks
same_ticks e [] [] is = refl
same_ticks e [] (w ∷ ws) is = cc
same_ticks e (x ∷ xs) [] is = cc
same_ticks e (x ∷ xs) (w ∷ ws) is =
    let first : bare e x ≡ bare_of e w = cc in
    let others : map (bare e) xs ≡ map (bare_of e) ws = cc in
    omega (arith, ap (λ b. b.len) first, same_ticks e xs ws others)

same_sum : (e : ℕ → Bool) (n : ℕ) (ls : List (List Packet)) (qs : List (List port.Packet)) → map (map (bare e)) ls ≡ map (map (bare_of e)) qs →
    sum_to n (λ d. ticks_of (get_or ls d [])) ≡ waiting_below n qs
unfolding sum_to waiting_below
same_sum e zero ls qs is = refl
same_sum e (suc n) ls qs is =
    let last = same_ticks e (get_or ls n []) (queue_of qs n) (sym (line-map (bare e) ls n) ∙ ap (λ l. get_or l n []) is ∙ line-map (bare_of e) qs n) in
    omega (arith, same_sum e n ls qs is, last)

pub queues-kept : QueuesKept
queues-kept e p fs room classes s c within goes =
    let it = goes_as_port e p fs room classes s goes in
    omega (arith, same_sum e (c + 1) s.queues it.port.queues it.shows.queues, queues-bounded p c fs it.port within it.run)
