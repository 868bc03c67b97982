-- What comes to a regulator in a tick is judged and put behind it, and then what may pass passes. Assumes nothing.
use Rattle.std.specs.Prelude.{ℕ, ◌+◌, Bool, true, false, cond, ◌&&◌, List, [], ◌∷◌, ◌++◌, length, nat_le, nat_lt}
use Rattle.lines.specs.declared.packet.Packet.{Packet}
use Rattle.lines.specs.Ticks.{ticks_of}
use Rattle.levels.specs.Levels.{LevelModel}
use Rattle.gates.specs.Gates.{Opened, opened}
use Rattle.regulators.specs.declared.coming.Coming.{Coming}

-- what waits with those that were accepted, and the numbers of those that were refused
pub record Judged : Type 0 where
  pub waits : List Packet
  pub refused : List ℕ

-- one more was refused before
abbrev pub refusing : ℕ → Judged → Judged
refusing number j = record { waits = j.waits; refused = number ∷ j.refused }

-- one after the other: who is accepted waits behind the others, and who is refused is as if it had never come
unfoldable pub judged : (List Packet → Packet → Bool) → List Packet → List Coming → Judged
judged accepts waits [] = record { waits = waits; refused = [] }
judged accepts waits (c ∷ cs) =
    cond (accepts waits c.packet) (judged accepts (waits ++ c.packet ∷ []) cs) (refusing c.number (judged accepts waits cs))

-- at the edge: fewer than 64 still wait after what may pass in this tick has passed
abbrev pub edge_accepts : ℕ → List ℕ → ℕ → List LevelModel → List (List Packet) → List Packet → Packet → Bool
edge_accepts room classes tick levels queues waits packet =
    nat_lt (length (opened room true classes tick waits levels queues).waits) 64

-- Inside: with it no more ticks wait than are set aside. As many packets and one more have a cell; where each is at least a
-- tick long, there is always one.
abbrev pub inner_accepts : ℕ → List Packet → Packet → Bool
inner_accepts aside waits packet = nat_le (ticks_of waits + packet.length) aside && nat_le (length waits) aside

-- a tick at a regulator: the numbers of those that were refused, and what is left when it has been opened
pub record GateTick : Type 0 where
  pub refused : List ℕ
  pub opened : Opened

abbrev pub gate_tick : (List Packet → Packet → Bool) → ℕ → Bool → List ℕ → ℕ → List Packet → List LevelModel → List (List Packet) → List Coming → GateTick
gate_tick accepts room at_edge classes tick waits levels queues coming =
    let j = judged accepts waits coming in
    record { refused = j.refused; opened = opened room at_edge classes tick j.waits levels queues }

abbrev pub edge_tick : ℕ → List ℕ → ℕ → List Packet → List LevelModel → List (List Packet) → List Coming → GateTick
edge_tick room classes tick waits levels queues =
    gate_tick (edge_accepts room classes tick levels queues) room true classes tick waits levels queues

abbrev pub inner_tick : ℕ → ℕ → List ℕ → ℕ → List Packet → List LevelModel → List (List Packet) → List Coming → GateTick
inner_tick aside room classes tick waits levels queues =
    gate_tick (inner_accepts aside) room false classes tick waits levels queues
