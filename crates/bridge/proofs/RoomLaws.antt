-- What waits behind regulators has room there. Assumes nothing.
use Rattle.std.proofs.Common.{◌≡◌, ℕ, Bool, Some, None, Option, List, [], ◌∷◌, map, refl, sym, subst, arith}
use Rattle.std.specs.List.{AllByRecursion as Each}
use Rattle.lines.specs.declared.packet.Packet.{Packet}
use Rattle.levels.specs.Levels.{LevelModel}
use Rattle.machine.specs.declared.sending.Sending.{Sending}
use Rattle.regulators.specs.declared.coming.Coming.{Coming}
use Rattle.regulators.proofs.EdgeExactLaws.{edge_laws}
use Rattle.regulators.proofs.InnerExactLaws.{inner_laws}
use Rattle.egress.specs.Egress.{GateModel}
use Rattle.egress.specs.Plays.{empty_gates}
use Rattle.egress.proofs.PlaceLaws.{each-both, each-apart}
use Rattle.bridge.specs.Ports.{Stand, edge, inside, GateState, tick_at, one_tick, GatesTick, gates_tick, then_takes}
use Rattle.bridge.specs.Comes.{one_more, ComesTo}
use Rattle.bridge.specs.Runs.{gate_model, begins, comes, ticks}
use Rattle.bridge.specs.Laws.{Roomy, RoomKept}

abbrev Kept : GateState → Type 0
Kept g = Roomy g.stand g.waits

-- nothing waits at first
all-empty : (edges : List Bool) → Each (λ (m : GateModel). m.waits ≡ []) (empty_gates edges)
all-empty [] = tt
all-empty (b ∷ edges) = (refl, all-empty edges)

empty_kept : (stand : Stand) (ws : List Packet) → ws ≡ [] → Roomy stand ws
empty_kept (edge flow) ws none = rw none (omega arith)
empty_kept (inside from class aside) ws none = rw none (omega arith)

none_wait : (gates : List GateState) → Each (λ (m : GateModel). m.waits ≡ []) (map gate_model gates) → Each Kept gates
none_wait [] none = tt
none_wait (g ∷ gates) none = (empty_kept g.stand g.waits none.0, none_wait gates none.1)

-- who comes waits not yet
comes_kept : {own : Stand → Bool} {c : Coming} (before after : List GateState) → ComesTo own c before after → Each Kept before → Each Kept after
comes_kept {c = c} before after to kept =
    let apart = each-apart Kept to.earlier (to.gate ∷ to.later) (subst (Each Kept) to.found kept) in
    subst (Each Kept) (sym to.comes) (each-both Kept to.earlier (one_more to.gate c ∷ to.later) apart.0 apart.1)

module _ (room : ℕ) (classes : List ℕ) (tick : ℕ) where
  tick_kept : (stand : Stand) (ws : List Packet) (levels : List LevelModel) (ls : List (List Packet)) (coming : List Coming) → Roomy stand ws →
      Roomy stand (tick_at room classes tick stand ws levels ls coming).opened.waits
  tick_kept (edge flow) ws levels ls coming kept = (edge_laws.exact room classes tick ws levels ls).few coming kept
  tick_kept (inside from class aside) ws levels ls coming kept = ((inner_laws.exact aside room classes tick ws levels ls).kept coming kept).1

  ticks_kept : (gates : List GateState) (levels : List LevelModel) (ls : List (List Packet)) → Each Kept gates → Each Kept (gates_tick room classes tick gates levels ls).gates
  unfolding gates_tick
  ticks_kept [] levels ls kept = tt
  ticks_kept (g ∷ gates) levels ls kept =
      let one = one_tick room classes tick g levels ls in
      (tick_kept g.stand g.waits levels ls g.coming kept.0, ticks_kept gates one.opened.levels one.opened.queues kept.1)

  taken_kept : (t : GatesTick) (sending : Option Sending) → Each Kept t.gates → Each Kept (then_takes tick sending t).port.gates
  taken_kept t None kept = kept
  taken_kept t (Some s) kept = kept

pub room_kept : RoomKept
room_kept a _ s (begins at) = none_wait s.gates (subst (Each (λ (m : GateModel). m.waits ≡ [])) (sym at.gates) (all-empty a.edges))
room_kept a _ _ (comes {tick = tick} {s = s} {gates = gates} to run belongs) = comes_kept s.gates gates to (room_kept a tick s run)
room_kept a _ _ (ticks {tick = tick} {s = s} run clock) =
    taken_kept a.room a.classes tick (gates_tick a.room a.classes tick s.gates s.levels s.queues) s.sending
    (ticks_kept a.room a.classes tick s.gates s.levels s.queues (room_kept a tick s run))
