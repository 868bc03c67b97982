-- What the memories of a net hold. Assumes nothing.
use Rattle.std.specs.Prelude.{ℕ, zero, suc, ◌+◌, cond, ◌==◌, List, [], ◌∷◌, slice_index_or}
use Rattle.flows.specs.Net.{NetModel, port_at}
use Rattle.flows.specs.Flow.{FlowModel}
use Rattle.levels.specs.Regular.{Pass}
use Rattle.queues.specs.Lines.{ticks_of, sum_to}
use Rattle.egress.specs.Egress.{gate_at}
use Rattle.egress.specs.Plays.{Moment, left, came, passed, took}
use Rattle.network.specs.Network.{inner_gate, NetState, come_all, pass_all, Sourced, net_left, net_run}

-- the net in a tick when what leaves has left, when what comes has come, when what may pass has passed, and when the ports have taken
abbrev pub net_at : NetModel → List FlowModel → (ℕ → List Sourced) → Moment → ℕ → NetState
net_at net fs rows left t = net_left net fs rows t
net_at net fs rows came t = come_all net fs (rows t) (net_left net fs rows t)
net_at net fs rows passed t = pass_all net fs (come_all net fs (rows t) (net_left net fs rows t))
net_at net fs rows took t = net_run net fs rows t

-- what the source of a flow sends in a tick, and what it has sent before tick t, the latest first
unfoldable pub sent_in : ℕ → ℕ → List Sourced → List Pass → List Pass
sent_in flow tick [] history = history
sent_in flow tick (x ∷ xs) history =
    sent_in flow tick xs (cond (x.flow == flow) (record { at = tick; len = x.length } ∷ history) history)

unfoldable pub sent_before : ℕ → (ℕ → List Sourced) → ℕ → List Pass
sent_before flow rows zero = []
sent_before flow rows (suc t) = sent_in flow t (rows t) (sent_before flow rows t)

-- the queues of the first n classes of port q
abbrev pub queues_held : NetState → ℕ → ℕ → ℕ
queues_held s q n = sum_to n (λ class. ticks_of (slice_index_or (s.port q).machine.queues class []))

-- the regulator of port p and a class before port q
abbrev pub regulator_held : List FlowModel → NetState → ℕ → ℕ → ℕ → ℕ
regulator_held fs s p q class = ticks_of (gate_at (s.port q).gates (inner_gate fs p class)).waits

-- those of the first n classes, and those of the first n ports
abbrev pub classes_held : List FlowModel → NetState → ℕ → ℕ → ℕ → ℕ
classes_held fs s p q n = sum_to n (λ class. regulator_held fs s p q class)

abbrev pub regulators_held : List FlowModel → NetState → ℕ → ℕ → ℕ
regulators_held fs s q n = sum_to n (λ p. classes_held fs s p q 8)

-- a switch: the queues of each of its ports, and the regulators before them
abbrev pub switch_held : NetModel → List FlowModel → NetState → ℕ → ℕ → ℕ
switch_held net fs s switch ports =
    sum_to ports (λ q. cond ((port_at net q).switch == switch) (queues_held s q 8 + regulators_held fs s q ports) 0)
