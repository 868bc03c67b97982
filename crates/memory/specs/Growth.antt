-- One flow more never shortens a due or a need. Assumes nothing.
use Rattle.std.specs.Prelude.{ℕ, ◌<◌, ◌≤◌, List, ◌∷◌, ◌++◌}
use Rattle.std.specs.List.{AllByRecursion as Each}
use Rattle.flows.specs.Net.{NetModel}
use Rattle.flows.specs.Flow.{FlowModel}
use Rattle.promises.specs.Promises.{den, before, rates, due_over, queue_need, port_need, regulator_need}
use Rattle.promises.specs.Laws.{Classed}
use Rattle.memory.specs.Plans.{switch_plan, Rated}

-- what a class is due over a road, where every port of it has a promise with the flow more
abbrev pub DueGrows : Type 0
DueGrows =
    (net : NetModel) (fs gs : List FlowModel) (f : FlowModel) (c : ℕ) (road : List ℕ) → Each (λ p. before p c (fs ++ f ∷ gs) < den) road →
    due_over net (fs ++ gs) c road ≤ due_over net (fs ++ f ∷ gs) c road

-- what the queues of a port need, of classes up to c and of all
abbrev pub QueueGrows : Type 0
QueueGrows = (p c : ℕ) (fs gs : List FlowModel) (f : FlowModel) → queue_need p c (fs ++ gs) ≤ queue_need p c (fs ++ f ∷ gs)

abbrev pub PortGrows : Type 0
PortGrows = (p : ℕ) (fs gs : List FlowModel) (f : FlowModel) → port_need p (fs ++ gs) ≤ port_need p (fs ++ f ∷ gs)

-- what a regulator needs, where the port before it has a promise with the flow more
abbrev pub RegulatorGrows : Type 0
RegulatorGrows =
    (p q c : ℕ) (fs gs : List FlowModel) (f : FlowModel) → before p c (fs ++ f ∷ gs) < den →
    regulator_need p q c (fs ++ gs) ≤ regulator_need p q c (fs ++ f ∷ gs)

-- what a switch needs, where no port is promised more than all of itself with the flow more
abbrev pub SwitchGrows : Type 0
SwitchGrows =
    (net : NetModel) (s : ℕ) (fs gs : List FlowModel) (f : FlowModel) → Each Classed (fs ++ f ∷ gs) → Each Rated (fs ++ f ∷ gs) →
    ((p : ℕ) → rates p (fs ++ f ∷ gs) ≤ den) → (n : ℕ) → switch_plan net s (fs ++ gs) n ≤ switch_plan net s (fs ++ f ∷ gs) n

-- all of these
pub record GrowthLaws : Type 0 where
  pub due : DueGrows
  pub queue : QueueGrows
  pub port : PortGrows
  pub regulator : RegulatorGrows
  pub switch : SwitchGrows
