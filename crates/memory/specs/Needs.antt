-- The memory of a switch, from the sums that are kept. Assumes nothing.
use Rattle.std.specs.Prelude.{ℕ, zero, suc, ◌+◌, ◌-◌, ◌*◌, ◌/◌, cond, List, ◌==◌, slice_index, slice_index_or}
use Rattle.std.specs.Option.{unwrap_or}
use Rattle.flows.specs.Net.{NetModel, port_at}
use Rattle.promises.specs.Promises.{den}
use Rattle.promises.specs.Loads.{LoadModel, no_load, load_promise, pair_at, total}

-- a regulator of a class: bursts, and what the rates bring within the window of the promise, rounded up once
abbrev pub ticks_within : ℕ → ℕ → ℕ → ℕ
ticks_within bursts rates window = (den * bursts + rates * window + (den - 1)) / den

-- of one class between two ports; where a port has no promise there is no flow, and nothing is needed
abbrev pub class_need : LoadModel → LoadModel → ℕ → ℕ
class_need port pair c = ticks_within (slice_index pair.bursts c) (slice_index pair.rates c) (unwrap_or (load_promise port c) 0)

-- of the first n classes between two ports
unfoldable pub class_needs : LoadModel → LoadModel → ℕ → ℕ
class_needs port pair zero = 0
class_needs port pair (suc n) = class_needs port pair n + class_need port pair n

-- of the regulators before port q, behind the first n ports
unfoldable pub regulator_needs : List LoadModel → List (List LoadModel) → ℕ → ℕ → ℕ
regulator_needs loads pairs q zero = 0
regulator_needs loads pairs q (suc n) = regulator_needs loads pairs q n + class_needs (slice_index_or loads n no_load) (pair_at pairs n q) 8

-- of a port: its queues, and the regulators before it
abbrev pub whole_need : List LoadModel → List (List LoadModel) → ℕ → ℕ
whole_need loads pairs q = total (slice_index_or loads q no_load).bursts + regulator_needs loads pairs q 64

-- of those of the first n ports that stand on switch s
unfoldable pub switch_needs : NetModel → List LoadModel → List (List LoadModel) → ℕ → ℕ → ℕ
switch_needs net loads pairs s zero = 0
switch_needs net loads pairs s (suc n) =
    switch_needs net loads pairs s n + cond ((port_at net n).switch == s) (whole_need loads pairs n) 0
