-- Regulators that are opened one after the other. Assumes nothing.
use Rattle.std.proofs.Common.{◌≡◌, ℕ, Some, None, Option, suc, ◌+◌, ◌<◌, ◌≤◌, List, [], ◌∷◌, ◌++◌, map, length, get_or, set, take, drop, sym, ap, ◌∙◌, refl, add-one, drop-cons, arith}
use Rattle.std.proofs.Math.Seq.{take-suc-set}
use Rattle.std.proofs.lemmas.List.{append_assoc, append-nil, drop-set-lt, map-append, take_all, drop_all}
use Rattle.lines.specs.declared.line.Line.{Line}
use Rattle.lines.specs.declared.packet.Packet.{Packet}
use Rattle.lines.specs.Lines.{waits}
use Rattle.levels.specs.declared.level.Level.{Level}
use Rattle.levels.specs.Levels.{LevelModel}
use Rattle.levels.specs.Models.{level_model}
use Rattle.queues.specs.declared.cell.Cell.{Cell}
use Rattle.queues.specs.declared.queues_of.Queues.{Queues}
use Rattle.queues.specs.Held.{Holds}
use Rattle.queues.specs.Lines.{left_by}
use Rattle.machine.specs.declared.sending.Sending.{Sending}
use Rattle.machine.specs.Phases.{takes}
use Rattle.regulators.specs.Judged.{GateTick}
use Rattle.regulators.specs.Ticked.{Ticked, behind as behind_gate}
use Rattle.bridge.specs.declared.egress_port.EgressPort.{EgressPort}
use Rattle.bridge.specs.Ports.{GateState, PortState, one_tick, gate_after, GatesTick, after_gate, gates_tick, then_takes}
use Rattle.bridge.specs.Held.{gates_of, state_of, gates_behind, behind, GatesTicked, PortTicked}

-- some regulators before
abbrev pub after_gates : List GateState → GatesTick → GatesTick
after_gates done t = record { refused = t.refused; gates = done ++ t.gates; levels = t.levels; queues = t.queues }

-- those that are still left, opened from now on, end as this
pub record GatesEnd (room : ℕ) (classes : List ℕ) (tick : ℕ) (done left : List GateState) (levels : List Level) (queues : Queues) (memory : List Cell) (refused : List ℕ) (t : GatesTick) : Type 0 where
  pub present : List (List Packet)
  pub held : Holds queues memory present
  pub ends : after_gates done (gates_behind refused (gates_tick room classes tick left (map level_model levels) present)) ≡ t

-- others after them
abbrev then_gates : GatesTick → GatesTick → GatesTick
then_gates t u = record { refused = t.refused ++ u.refused; gates = t.gates ++ u.gates; levels = u.levels; queues = u.queues }

-- one more has been opened
regrouped : (done : List GateState) (before : List ℕ) (g : GateState) (t : GateTick) (rest : GatesTick) →
    after_gates (done ++ gate_after g t ∷ []) (gates_behind (before ++ t.refused) rest) ≡ after_gates done (gates_behind before (after_gate g t rest))
regrouped done before g t rest =
    ap (λ (gs : List GateState). let x : GatesTick = record { refused = (before ++ t.refused) ++ rest.refused; gates = gs; levels = rest.levels; queues = rest.queues } in x)
    (append_assoc done (gate_after g t ∷ []) rest.gates)
    ∙ ap (λ (ns : List ℕ). let x : GatesTick = record { refused = ns; gates = done ++ gate_after g t ∷ rest.gates; levels = rest.levels; queues = rest.queues } in x)
    (append_assoc before t.refused rest.refused)

module _ (room : ℕ) (classes : List ℕ) (tick : ℕ) where
  pub one-more : (done : List GateState) (g : GateState) (left : List GateState) (levels : List Level) (queues : Queues) (memory : List Cell) (refused : List ℕ) (t : GatesTick)
      (ends : GatesEnd room classes tick done (g ∷ left) levels queues memory refused t)
      (cells : List Packet) (line : Line) (less : List Level) (after : Queues) (written : List Cell) (told : List ℕ) →
      Ticked cells line less after written told (behind_gate refused (one_tick room classes tick g (map level_model levels) ends.present)) →
      GatesEnd room classes tick (done ++ record { stand = g.stand; waits = waits cells line; coming = [] } ∷ []) left less after written told t
  unfolding gates_tick
  one-more done g left levels queues memory refused t ends cells line less after written told ticked =
      let one : GateTick = one_tick room classes tick g (map level_model levels) ends.present in
      record {
        present = one.opened.queues;
        held = ticked.opens.held;
        ends =
            ap (λ (ws : List Packet). after_gates (done ++ record { stand = g.stand; waits = ws; coming = [] } ∷ []) (gates_behind told (gates_tick room classes tick left (map level_model less) one.opened.queues))) ticked.opens.left
            ∙ ap (λ (ns : List ℕ). after_gates (done ++ gate_after g one ∷ []) (gates_behind ns (gates_tick room classes tick left (map level_model less) one.opened.queues))) ticked.numbers
            ∙ ap (λ (ls : List LevelModel). after_gates (done ++ gate_after g one ∷ []) (gates_behind (refused ++ one.refused) (gates_tick room classes tick left ls one.opened.queues))) ticked.opens.spent
            ∙ regrouped done refused g one (gates_tick room classes tick left one.opened.levels one.opened.queues)
            ∙ ends.ends;
      }

  -- when none is left
  pub gates-end : (done : List GateState) (levels : List Level) (queues : Queues) (memory : List Cell) (refused : List ℕ) (t : GatesTick) →
      GatesEnd room classes tick done [] levels queues memory refused t → GatesTicked done levels queues memory refused t
  unfolding gates_tick
  gates-end done levels queues memory refused t ends =
      let same = ends.ends in
      rw (← same) (record {
        gates_are = sym (append-nil done);
        levels_are = refl;
        held = ends.held;
        numbers = sym (append-nil refused);
      })

  -- one step of a loop over them
  pub next-gate : {X : Type 0} (state : X → GateState) (xs : List X) (i : ℕ) (d new : X) (levels : List Level) (queues : Queues) (memory : List Cell) (refused : List ℕ) (t : GatesTick)
      (ends : GatesEnd room classes tick (map state (take i xs)) (map state (drop i xs)) levels queues memory refused t)
      (cells : List Packet) (line : Line) (less : List Level) (after : Queues) (written : List Cell) (told : List ℕ) → i < length xs →
      Ticked cells line less after written told (behind_gate refused (one_tick room classes tick (state (get_or xs i d)) (map level_model levels) ends.present)) →
      state new ≡ record { stand = (state (get_or xs i d)).stand; waits = waits cells line; coming = [] } →
      GatesEnd room classes tick (map state (take (i + 1) (set xs i new))) (map state (drop (i + 1) (set xs i new))) less after written told t
  next-gate state xs i d new levels queues memory refused t ends cells line less after written told within ticked same =
      let old = get_or xs i d in
      let split : map state (drop i xs) ≡ state old ∷ map state (drop (suc i) xs) = ap (map state) (drop-cons xs i d within) in
      let now : GatesEnd room classes tick (map state (take i xs)) (state old ∷ map state (drop (suc i) xs)) levels queues memory refused t =
      record { present = ends.present; held = ends.held; ends = rw split at ends.ends } in
      let done : map state (take (i + 1) (set xs i new)) ≡ map state (take i xs) ++ record { stand = (state old).stand; waits = waits cells line; coming = [] } ∷ [] =
      rw add-one (ap (map state) (take-suc-set xs i new within) ∙ map-append state (take i xs) (new ∷ []) ∙ ap (λ g. map state (take i xs) ++ g ∷ []) same) in
      let left : map state (drop (i + 1) (set xs i new)) ≡ map state (drop (suc i) xs) =
      rw add-one (ap (map state) (drop-set-lt (suc i) xs i new (omega arith))) in
      rw (done, left) (one-more (map state (take i xs)) (state old) (map state (drop (suc i) xs)) levels queues memory refused t now cells line less after written told ticked)

  -- and when it has come to the end of them
  pub loop-end : {X : Type 0} (state : X → GateState) (xs : List X) (i : ℕ) (levels : List Level) (queues : Queues) (memory : List Cell) (refused : List ℕ) (t : GatesTick) →
      length xs ≤ i → GatesEnd room classes tick (map state (take i xs)) (map state (drop i xs)) levels queues memory refused t →
      GatesTicked (map state xs) levels queues memory refused t
  loop-end state xs i levels queues memory refused t all ends =
      let whole : take i xs ≡ xs = take_all i xs all in
      let none : drop i xs ≡ [] = drop_all i xs all in
      gates-end (map state xs) levels queues memory refused t (rw (whole, none) at ends)

  -- some regulators, and then others
  pub gates_tick-append : (gates more : List GateState) (levels : List LevelModel) (ls : List (List Packet)) →
      gates_tick room classes tick (gates ++ more) levels ls ≡
      then_gates (gates_tick room classes tick gates levels ls)
      (gates_tick room classes tick more (gates_tick room classes tick gates levels ls).levels (gates_tick room classes tick gates levels ls).queues)
  unfolding gates_tick
  gates_tick-append [] more levels ls = refl
  gates_tick-append (g ∷ gates) more levels ls =
      let one : GateTick = one_tick room classes tick g levels ls in
      let first : GatesTick = gates_tick room classes tick gates one.opened.levels one.opened.queues in
      let second : GatesTick = gates_tick room classes tick more first.levels first.queues in
      ap (after_gate g one) (gates_tick-append gates more one.opened.levels one.opened.queues)
      ∙ ap (λ (ns : List ℕ). let x : GatesTick = record { refused = ns; gates = gate_after g one ∷ (first.gates ++ second.gates); levels = second.levels; queues = second.queues } in x)
      (sym (append_assoc one.refused first.refused second.refused))

  pub then-others : (gates more : List GateState) (levels : List Level) (ls : List (List Packet)) (before : List ℕ)
      (first : List GateState) (less : List Level) (queues : Queues) (memory : List Cell) (refused : List ℕ) →
      GatesTicked first less queues memory refused (gates_behind before (gates_tick room classes tick gates (map level_model levels) ls)) →
      (second : List GateState) (least : List Level) (after : Queues) (written : List Cell) (told : List ℕ) →
      GatesTicked second least after written told
      (gates_behind refused (gates_tick room classes tick more (map level_model less) (gates_tick room classes tick gates (map level_model levels) ls).queues)) →
      GatesTicked (first ++ second) least after written told (gates_behind before (gates_tick room classes tick (gates ++ more) (map level_model levels) ls))
  then-others gates more levels ls before first less queues memory refused one second least after written told two =
      let t = gates_tick room classes tick gates (map level_model levels) ls in
      let rest = rw one.levels_are at two in
      rw gates_tick-append (record {
        gates_are = ap (λ gs. gs ++ second) one.gates_are ∙ ap (λ gs. t.gates ++ gs) rest.gates_are;
        levels_are = rest.levels_are;
        held = rest.held;
        numbers =
            rest.numbers ∙ ap (λ ns. ns ++ (gates_tick room classes tick more t.levels t.queues).refused) one.numbers
            ∙ append_assoc before t.refused (gates_tick room classes tick more t.levels t.queues).refused;
      })

same-state : (port : EgressPort) (t : GatesTick) (queues : List (List Packet)) (sending : Option Sending) →
    gates_of port ≡ t.gates → map level_model port.levels.items ≡ t.levels → port.sending ≡ sending →
    state_of port queues ≡ record { gates = t.gates; levels = t.levels; queues = queues; sending = sending }
same-state port t queues sending gates levels sends =
    ap (λ (gs : List GateState). let x : PortState = record { gates = gs; levels = map level_model port.levels.items; queues = queues; sending = port.sending } in x) gates
    ∙ ap (λ (ls : List LevelModel). let x : PortState = record { gates = t.gates; levels = ls; queues = queues; sending = port.sending } in x) levels
    ∙ ap (λ (o : Option Sending). let x : PortState = record { gates = t.gates; levels = t.levels; queues = queues; sending = o } in x) sends

-- then the port takes, unless it is sending
pub port-took : (tick : ℕ) (port : EgressPort) (queues : Queues) (memory written : List Cell) (before refused : List ℕ) (t : GatesTick) (sending : Option Sending) →
    GatesTicked (gates_of port) port.levels.items queues memory refused (gates_behind before t) →
    (sending ≡ None → (ls : List (List Packet)) → Holds queues memory ls → (port.sending ≡ takes tick ls) × Holds port.queues written (left_by ls)) →
    ((s : Sending) → sending ≡ Some s → (port.sending ≡ Some s) × (port.queues ≡ queues) × (written ≡ memory)) →
    PortTicked port written refused (behind before (then_takes tick sending t))
port-took tick port queues memory written before refused t None ticked free busy =
    let took = free refl t.queues ticked.held in
    record {
      held = took.1;
      state = same-state port t (left_by t.queues) (takes tick t.queues) ticked.gates_are ticked.levels_are took.0;
      numbers = ticked.numbers;
    }
port-took tick port queues memory written before refused t (Some s) ticked free busy =
    let same = busy s refl in
    record {
      held = rw (same.1, same.2) ticked.held;
      state = same-state port t t.queues (Some s) ticked.gates_are ticked.levels_are same.0;
      numbers = ticked.numbers;
    }
