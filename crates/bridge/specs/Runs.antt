-- The states to which the code at a port comes. Assumes nothing.
use Rattle.std.specs.Prelude.{◌≡◌, ℕ, ◌+◌, ◌^◌, ◌<◌, Bool, List, [], map, replicate, None}
use Rattle.std.specs.List.{AllByRecursion as Each}
use Rattle.levels.specs.Levels.{LevelModel, full_level}
use Rattle.regulators.specs.declared.coming.Coming.{Coming}
use Rattle.egress.specs.Egress.{GateModel, EgressModel}
use Rattle.egress.specs.Plays.{Setup, Belongs, empty_gates}
use Rattle.bridge.specs.Ports.{Stand, is_edge, GateState, PortState, port_tick, port_left}
use Rattle.bridge.specs.Comes.{ComesTo}

-- a port between the phases of a tick
abbrev pub gate_model : GateState → GateModel
gate_model g = record { at_edge = is_edge g.stand; waits = g.waits }

abbrev pub egress_of : ℕ → PortState → EgressModel
egress_of tick s =
    record {
      gates = map gate_model s.gates;
      machine = record { levels = s.levels; queues = s.queues; sending = s.sending; tick = tick };
    }

-- nothing waits, nobody comes, nothing is being sent, and the levels are full
pub record AtStart (a : Setup) (s : PortState) : Type 0 where
  pub gates : map gate_model s.gates ≡ empty_gates a.edges
  pub nobody : Each (λ (g : GateState). g.coming ≡ []) s.gates
  pub levels : s.levels ≡ map (λ f. full_level f.burst f.rate) a.flows
  pub queues : s.queues ≡ replicate 8 []
  pub sending : s.sending ≡ None

-- a regulator at which nothing waits and nobody comes
pub record Vacant (g : GateState) : Type 0 where
  pub waits : g.waits ≡ []
  pub coming : g.coming ≡ []

-- with vacant regulators of these kinds and full levels a port is at its start
abbrev pub StartsWith : List GateState → List LevelModel → PortState → Type 0
StartsWith gates levels s =
    (a : Setup) → map (λ (g : GateState). is_edge g.stand) gates ≡ a.edges → Each Vacant gates →
    levels ≡ map (λ f. full_level f.burst f.rate) a.flows → AtStart a s

abbrev pub with_gates : PortState → List GateState → PortState
with_gates s gates = record { gates = gates; levels = s.levels; queues = s.queues; sending = s.sending }

-- From there in any tick packets come, each to a regulator of its kind; then the tick is done at the port, and the next one begins, in
-- which what leaves has left.
pub data Runs (a : Setup) : ℕ → PortState → Type 0 where
  begins : {s : PortState} → AtStart a s → Runs a 0 s
  comes : {tick : ℕ} {s : PortState} {gates : List GateState} {own : Stand → Bool} {c : Coming} (to : ComesTo own c s.gates gates) →
      Runs a tick s → Belongs a (is_edge to.gate.stand) c.packet → Runs a tick (with_gates s gates)
  ticks : {tick : ℕ} {s : PortState} → Runs a tick s → tick + 255 < 2 ^ 64 → Runs a (tick + 1) (port_left (tick + 1) (port_tick a.room a.classes tick s).port)
