-- The memory of a switch by the flows alone, and that the sums that are kept give it. Assumes nothing.
use Rattle.std.specs.Prelude.{◌≡◌, ℕ, zero, suc, ◌+◌, ◌≤◌, cond, List, ◌==◌}
use Rattle.std.specs.List.{AllByRecursion as Each}
use Rattle.flows.specs.Net.{NetModel, port_at}
use Rattle.flows.specs.Flow.{FlowModel}
use Rattle.promises.specs.Promises.{den, rates, port_need, regulator_need}
use Rattle.promises.specs.Loads.{LoadModel}
use Rattle.promises.specs.Laws.{Classed, Kept, PairsOf}
use Rattle.memory.specs.Needs.{switch_needs}

-- the regulators of the first n classes behind port p before port q
unfoldable pub class_plan : ℕ → ℕ → List FlowModel → ℕ → ℕ
class_plan p q fs zero = 0
class_plan p q fs (suc n) = class_plan p q fs n + regulator_need p q n fs

-- all regulators before port q, behind the first n ports
unfoldable pub regulator_plan : ℕ → List FlowModel → ℕ → ℕ
regulator_plan q fs zero = 0
regulator_plan q fs (suc n) = regulator_plan q fs n + class_plan n q fs 8

-- port q: its queues, and the regulators before it
abbrev pub port_plan : ℕ → List FlowModel → ℕ
port_plan q fs = port_need q fs + regulator_plan q fs 64

-- those of the first n ports that stand on switch s
unfoldable pub switch_plan : NetModel → ℕ → List FlowModel → ℕ → ℕ
switch_plan net s fs zero = 0
switch_plan net s fs (suc n) = switch_plan net s fs n + cond ((port_at net n).switch == s) (port_plan n fs) 0

-- a rate is at least 1
abbrev pub Rated : FlowModel → Type 0
Rated f = 1 ≤ f.rate

-- the sums that are kept give what the flows need, where no port is promised more than all of itself
abbrev pub NeedsKept : Type 0
NeedsKept =
    (net : NetModel) (loads : List LoadModel) (pairs : List (List LoadModel)) (fs : List FlowModel) → Kept loads fs → PairsOf pairs fs →
    Each Classed fs → Each Rated fs → ((p : ℕ) → rates p fs ≤ den) →
    (s n : ℕ) → n ≤ 64 → switch_needs net loads pairs s n ≡ switch_plan net s fs n
