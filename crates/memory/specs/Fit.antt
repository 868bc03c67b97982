-- Promises and needs of flows that can be admitted fit 64 bits. Assumes nothing.
use Rattle.std.specs.Prelude.{◌≡◌, ℕ, ◌+◌, ◌-◌, ◌^◌, ◌<◌, ◌≤◌, min, List, length, slice_index_or}
use Rattle.std.specs.List.{AllByRecursion as Each}
use Rattle.flows.specs.Net.{NetModel}
use Rattle.flows.specs.Flow.{FlowModel}
use Rattle.promises.specs.Promises.{den, before, promise, rates, windowed, regulator_need}
use Rattle.promises.specs.Loads.{LoadModel, no_load, pair_at}
use Rattle.promises.specs.Laws.{Classed, Bounded, Kept, PairsOf}
use Rattle.memory.specs.Needs.{class_need}
use Rattle.memory.specs.Plans.{switch_plan, Rated}

-- a longest packet is a byte
abbrev pub Short : FlowModel → Type 0
Short f = f.longest ≤ 255

-- Flows that can be admitted together are so: at most 256, each in its ranges, and no port is promised more than all of
-- itself.
pub record Admissible (fs : List FlowModel) : Type 0 where
  pub few : length fs ≤ 256
  pub classed : Each Classed fs
  pub short : Each Short fs
  pub bounded : Each Bounded fs
  pub rated : Each Rated fs
  pub room : (p : ℕ) → rates p fs ≤ den

-- a promise, where the class has one
abbrev pub PromiseFits : Type 0
PromiseFits = (p c : ℕ) (fs : List FlowModel) → Admissible fs → before p c fs < den → promise p c fs < 2 ^ 44

-- what may come into a regulator within its window, in millionths of ticks, and what is added to round it up
abbrev pub WindowFits : Type 0
WindowFits = (p q c : ℕ) (fs : List FlowModel) → Admissible fs → windowed p q c (promise p c fs) fs + (den - 1) < 2 ^ 45

-- the memory of a switch, and of those of its ports that were added so far
abbrev pub SwitchFits : Type 0
SwitchFits = (net : NetModel) (s n : ℕ) (fs : List FlowModel) → Admissible fs → n ≤ 64 → switch_plan net s fs n < 2 ^ 41

-- what a regulator needs by the sums that are kept, in 32 bits
abbrev pub aside_by : List LoadModel → List (List LoadModel) → ℕ → ℕ → ℕ → ℕ
aside_by loads pairs p q c = min (class_need (slice_index_or loads p no_load) (pair_at pairs p q) c) 4294967295

-- is what it needs by the flows
abbrev pub AsideKept : Type 0
AsideKept =
    (loads : List LoadModel) (pairs : List (List LoadModel)) (fs : List FlowModel) → Kept loads fs → PairsOf pairs fs → Admissible fs →
    (p q c : ℕ) → p < 64 → q < 64 → c ≤ 7 → aside_by loads pairs p q c ≡ regulator_need p q c fs

-- all of these: of 64 bits 45 are used
pub record NeedsFit : Type 0 where
  pub promise : PromiseFits
  pub window : WindowFits
  pub switch : SwitchFits
