-- Laws of promises. Assumes nothing.
use Rattle.std.specs.Prelude.{◌≡◌, ℕ, ◌+◌, ◌*◌, ◌<◌, ◌≤◌, ◌⊎◌, List, [], ◌∷◌, ◌++◌, length, take, Some, None, slice_index, slice_index_or}
use Rattle.std.specs.List.{AllByRecursion as Each}
use Rattle.flows.specs.Net.{NetModel}
use Rattle.flows.specs.Flow.{FlowModel, Once}
use Rattle.promises.specs.Promises.{den, before, promise, dues, due_over, windowed, queue_need, port_need}
use Rattle.promises.specs.Examples.{WorkedExamples}
use Rattle.promises.specs.Loads.{LoadModel, no_load, load_of, load_promise, loads_with, loads_until, loads_along, loads_dues, pair_of, pair_at, pairs_with, pairs_until, pairs_along}

-- classes are 0 to 7
abbrev pub Classed : FlowModel → Type 0
Classed f = f.class ≤ 7

-- a longest packet fits its flow's burst
abbrev pub Holding : FlowModel → Type 0
Holding f = f.longest ≤ f.burst

-- a burst and a rate are no greater than they may be
abbrev pub Bounded : FlowModel → Type 0
Bounded f = (f.burst ≤ 65535) × (f.rate ≤ den)

-- the sums that are kept give the promise of the definition
abbrev pub SumsKept : Type 0
SumsKept =
    (p c : ℕ) (fs : List FlowModel) → Each Classed fs → c ≤ 7 → before p c fs < den →
    load_promise (load_of p no_load fs) c ≡ Some (promise p c fs)

-- a table of all ports is what a list of flows asks of each
abbrev pub Kept : List LoadModel → List FlowModel → Type 0
Kept ts fs = (q : ℕ) → q < 64 → slice_index_or ts q no_load ≡ load_of q no_load fs

-- and stays so with a flow more, whose road passes no port twice
abbrev pub TableKept : Type 0
TableKept =
    (ts us : List LoadModel) (fs : List FlowModel) (f : FlowModel) → length ts ≡ 64 → Once f.road → Each (λ p. p < 64) f.road →
    Kept ts fs → loads_with f f.road ts ≡ Some us → Kept us (fs ++ f ∷ [])

-- the dues by a table that is kept are the dues of the definition, where every port of the road has a promise
abbrev pub DuesKept : Type 0
DuesKept =
    (net : NetModel) (ts : List LoadModel) (fs : List FlowModel) (c t : ℕ) (road : List ℕ) → Kept ts fs → Each Classed fs → c ≤ 7 →
    Each (λ p. (p < 64) × (before p c fs < den)) road → loads_dues net ts c t road ≡ Some (dues net fs c t road)

-- the last of the dues up to each port is the due over the whole road
abbrev pub LastIsDue : Type 0
LastIsDue =
    (net : NetModel) (fs : List FlowModel) (c p : ℕ) (ps : List ℕ) →
    slice_index (dues net fs c 0 (p ∷ ps)) (length ps) ≡ due_over net fs c (p ∷ ps)

-- for 64 ports, of each what goes on to each of 64
pub record Squared (tables : List (List LoadModel)) : Type 0 where
  pub rows : length tables ≡ 64
  pub columns : (p : ℕ) → p < 64 → length (slice_index_or tables p []) ≡ 64

-- a table of pairs is what a list of flows asks between each two ports
abbrev pub PairsOf : List (List LoadModel) → List FlowModel → Type 0
PairsOf tables fs = (p q : ℕ) → p < 64 → q < 64 → pair_at tables p q ≡ pair_of p q no_load fs

-- and stays so with a flow more
abbrev pub PairsKept : Type 0
PairsKept =
    (tables us : List (List LoadModel)) (fs : List FlowModel) (f : FlowModel) → Squared tables → Once f.road → Each (λ p. p < 64) f.road →
    PairsOf tables fs → pairs_with f f.road tables ≡ Some us → Squared us × PairsOf us (fs ++ f ∷ [])

-- Tables of flows, and of these with one more: along the road of that flow each becomes the other, of each port below 64,
-- and keeps its length.
abbrev pub TablesFollow : Type 0
TablesFollow =
    (ts us : List LoadModel) (fs : List FlowModel) (f : FlowModel) → length ts ≡ 64 → length us ≡ 64 →
    Kept ts fs → Kept us (fs ++ f ∷ []) → Kept (loads_along f.road us ts) (fs ++ f ∷ []) × Kept (loads_along f.road ts us) fs ×
    (length (loads_along f.road us ts) ≡ 64) × (length (loads_along f.road ts us) ≡ 64)

-- and so do those between each two ports
abbrev pub PairsFollow : Type 0
PairsFollow =
    (tables us : List (List LoadModel)) (fs : List FlowModel) (f : FlowModel) → Squared tables → Squared us → Each (λ p. p < 64) f.road →
    PairsOf tables fs → PairsOf us (fs ++ f ∷ []) → PairsOf (pairs_along f.road us tables) (fs ++ f ∷ []) × PairsOf (pairs_along f.road tables us) fs ×
    Squared (pairs_along f.road us tables) × Squared (pairs_along f.road tables us)

-- where not all sums of a road fit, its first ports have the flow, as many as fit
abbrev pub UntilFull : Type 0
UntilFull =
    (f : FlowModel) (road : List ℕ) (ts : List LoadModel) → (n : ℕ) × (loads_with f (take n road) ts ≡ Some (loads_until f road ts)) ×
    ((n ≡ length road) ⊎ (loads_with f (take (n + 1) road) ts ≡ None))

-- and so between them
abbrev pub PairsUntilFull : Type 0
PairsUntilFull =
    (f : FlowModel) (road : List ℕ) (tables : List (List LoadModel)) → (n : ℕ) × (pairs_with f (take n road) tables ≡ Some (pairs_until f road tables)) ×
    ((n ≡ length road) ⊎ (pairs_with f (take (n + 1) road) tables ≡ None))

-- and is gone again when the table follows what it was along that road
abbrev pub RefusalUndone : Type 0
RefusalUndone = (f : FlowModel) (road : List ℕ) (ts : List LoadModel) → loads_along road ts (loads_until f road ts) ≡ ts

abbrev pub PairsUndone : Type 0
PairsUndone =
    (f : FlowModel) (road : List ℕ) (tables : List (List LoadModel)) → Squared tables → Each (λ p. p < 64) road →
    pairs_along road tables (pairs_until f road tables) ≡ tables

-- with at most 255 flows asked for, no sum at a port passes 32 bits by a flow more
abbrev pub SumsFit : Type 0
SumsFit =
    (ts : List LoadModel) (fs : List FlowModel) (f : FlowModel) → Each Bounded fs → Bounded f → Once f.road → Each (λ p. p < 64) f.road →
    length fs ≤ 255 → Kept ts fs → (us : List LoadModel) × (loads_with f f.road ts ≡ Some us)

-- nor does one between two ports
abbrev pub PairsFit : Type 0
PairsFit =
    (tables : List (List LoadModel)) (fs : List FlowModel) (f : FlowModel) → Each Bounded fs → Bounded f → Once f.road →
    Each (λ p. p < 64) f.road → length fs ≤ 255 → PairsOf tables fs →
    (us : List (List LoadModel)) × (pairs_with f f.road tables ≡ Some us)

-- what may come into a regulator within a window, from the sums that are kept
abbrev pub WindowKept : Type 0
WindowKept =
    (p q c window : ℕ) (fs : List FlowModel) → Each Classed fs → c ≤ 7 →
    windowed p q c window fs ≡ den * slice_index (pair_of p q no_load fs).bursts c + slice_index (pair_of p q no_load fs).rates c * window

-- one flow more never shortens a promise
abbrev pub NeverShorter : Type 0
NeverShorter =
    (p c : ℕ) (fs gs : List FlowModel) (f : FlowModel) → before p c (fs ++ f ∷ gs) < den →
    promise p c (fs ++ gs) ≤ promise p c (fs ++ f ∷ gs)

-- what is set aside for a port is enough for every class prefix of its queues
abbrev pub PortCovers : Type 0
PortCovers = (p c : ℕ) (fs : List FlowModel) → Each Classed fs → Each Holding fs → queue_need p c fs ≤ port_need p fs

-- all of these, and the worked examples
pub record PromiseLaws : Type 0 where
  pub kept : SumsKept
  pub table : TableKept
  pub dues : DuesKept
  pub last : LastIsDue
  pub pairs : PairsKept
  pub follow : TablesFollow
  pub pairs_follow : PairsFollow
  pub until : UntilFull
  pub pairs_until : PairsUntilFull
  pub undone : RefusalUndone
  pub pairs_undone : PairsUndone
  pub sums_fit : SumsFit
  pub pairs_fit : PairsFit
  pub window : WindowKept
  pub grows : NeverShorter
  pub covers : PortCovers
  pub examples : WorkedExamples
