-- What a plan keeps of its flows, as tests. Assumes nothing.
use Rattle.std.specs.Prelude.{ℕ, zero, suc, Bool, true, false, ◌&&◌, List, [], ◌∷◌, Some, None, Option, slice_index_or}
use Rattle.std.specs.Str.{bytes_eq}
use Rattle.std.specs.Option.{is_none}
use Rattle.flows.specs.Net.{NetModel}
use Rattle.flows.specs.Flow.{FlowModel}
use Rattle.flows.specs.Roads.{leads}
use Rattle.promises.specs.declared.demand.Demand.{Demand}
use Rattle.promises.specs.Models.{loads_model, pairs_model}
use Rattle.promises.specs.Loads.{LoadModel, no_load, load_of, pair_of, pair_at}
use Rattle.admission.specs.Tests.{NumberedModel}
use Rattle.admission.specs.Rules.{refusal_of}

-- the same sums
abbrev pub same_load : LoadModel → LoadModel → Bool
same_load t u = bytes_eq t.bursts u.bursts && (bytes_eq t.rates u.rates && bytes_eq t.longest u.longest)

-- a test is passed by all numbers below n
unfoldable pub all_below : (ℕ → Bool) → ℕ → Bool
all_below test zero = true
all_below test (suc n) = test n && all_below test n

-- the sums that are kept for each port are those of the flows
abbrev pub keeps_loads : List LoadModel → List FlowModel → Bool
keeps_loads loads fs = all_below (λ q. same_load (slice_index_or loads q no_load) (load_of q no_load fs)) 64

-- and so are those that are kept between each two
abbrev pub keeps_pairs : List (List LoadModel) → List FlowModel → Bool
keeps_pairs pairs fs = all_below (λ p. all_below (λ q. same_load (pair_at pairs p q) (pair_of p q no_load fs)) 64) 64

-- so that a demand is that of the flows
abbrev pub keeps_demand : Demand → List FlowModel → Bool
keeps_demand demand fs = keeps_loads (loads_model demand.loads) fs && keeps_pairs (pairs_model demand.pairs) fs

-- and so is one to try flows on; where it isn't there, there are no flows
abbrev pub tried_keeps : Option Demand → List FlowModel → Bool
tried_keeps None [] = true
tried_keeps None (f ∷ fs) = false
tried_keeps (Some demand) fs = keeps_demand demand fs

-- all flows have roads through the net
unfoldable pub all_roads : NetModel → List FlowModel → Bool
all_roads net [] = true
all_roads net (f ∷ fs) = leads net f.road && all_roads net fs

-- the flows pass all tests of admission
abbrev pub passes_all : NetModel → List NumberedModel → Bool
passes_all net gs = is_none (refusal_of net gs)
