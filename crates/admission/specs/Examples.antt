-- Worked examples of admission, in one table with those of promises. Assumes nothing.
use Rattle.std.specs.Prelude.{ℕ, ◌+◌, List, [], ◌∷◌, ◌++◌, replicate, Some, None, Option}
use Rattle.flows.specs.Net.{NetModel}
use Rattle.flows.specs.Flow.{FlowModel}
use Rattle.promises.specs.Promises.{due}
use Rattle.promises.specs.Examples.{ring, ring_flow, ring_flows, Row, row, examples, Hold}
use Rattle.admission.specs.declared.refusal.Refusal.{Refusal}
use Rattle.admission.specs.declared.refusal.Refusal.TheVariants.{Road, Crowded, Promised, Late, Memory}
use Rattle.admission.specs.Tests.{NumberedModel, refusal_number}
use Rattle.admission.specs.Rules.{switch_need, refusal_of}

-- the number of a refusal; 0 where there is none
abbrev pub answered : Option Refusal → ℕ
answered None = 0
answered (Some r) = refusal_number r

-- its place: the port, flow or switch that it names; 0 where it names none
abbrev pub placed : Option Refusal → ℕ
placed None = 0
placed (Some Road) = 0
placed (Some Crowded) = 0
placed (Some (Promised port)) = port
placed (Some (Late flow)) = flow
placed (Some (Memory switch)) = switch

-- flows numbered from n on
abbrev pub numbered : ℕ → List FlowModel → List NumberedModel
numbered n [] = []
numbered n (f ∷ fs) = record { number = n; flow = f } ∷ numbered (n + 1) fs

-- the first test that flows fail together, where they are numbered from 0 on
abbrev pub asked : NetModel → List FlowModel → Option Refusal
asked net fs = refusal_of net (numbered 0 fs)

-- the ring with other memories
abbrev pub ring_of : List ℕ → NetModel
ring_of memories = record { ports = ring.ports; memories = memories }

-- a flow of the ring with another deadline
abbrev pub hurried : ℕ → FlowModel → FlowModel
hurried deadline f =
    record { class = f.class; longest = f.longest; burst = f.burst; rate = f.rate; deadline = deadline; road = f.road }

-- the three flows of the ring, by their rate
abbrev pub first : ℕ → FlowModel
first rate = ring_flow rate (0 ∷ 1 ∷ [])

abbrev pub second : ℕ → FlowModel
second rate = ring_flow rate (1 ∷ 2 ∷ [])

abbrev pub third : ℕ → FlowModel
third rate = ring_flow rate (2 ∷ 0 ∷ [])

abbrev pub first_two : ℕ → List FlowModel
first_two rate = first rate ∷ second rate ∷ []

-- all three, with a deadline of the third alone, and of each
abbrev pub last_hurried : ℕ → ℕ → List FlowModel
last_hurried rate deadline = first rate ∷ second rate ∷ hurried deadline (third rate) ∷ []

abbrev pub all_hurried : ℕ → ℕ → List FlowModel
all_hurried rate deadline = hurried deadline (first rate) ∷ hurried deadline (second rate) ∷ hurried deadline (third rate) ∷ []

abbrev pub fitting : List Row
fitting =
    row (answered (asked ring (ring_flows 400000))) 0 ∷
    row (switch_need ring (ring_flows 400000) 0) 19 ∷
    row (switch_need ring (ring_flows 400000) 1) 19 ∷
    row (switch_need ring (ring_flows 400000) 2) 19 ∷
    row (answered (asked (ring_of (19 ∷ 19 ∷ 19 ∷ [])) (ring_flows 400000))) 0 ∷ []

abbrev pub too_much : List Row
too_much =
    row (answered (asked ring (first 600000 ∷ []))) 0 ∷
    row (answered (asked ring (first_two 600000))) 4 ∷
    row (placed (asked ring (first_two 600000))) 1 ∷
    row (answered (asked ring (first 600000 ∷ third 600000 ∷ []))) 4 ∷
    row (placed (asked ring (first 600000 ∷ third 600000 ∷ []))) 0 ∷ []

abbrev pub too_late : List Row
too_late =
    row (answered (asked ring (first_two 400000))) 0 ∷
    row (due ring (first_two 400000) (first 400000)) 17 ∷
    row (due ring (first_two 400000) (second 400000)) 17 ∷
    row (answered (asked ring (last_hurried 400000 22))) 0 ∷
    row (answered (asked ring (last_hurried 400000 21))) 5 ∷
    row (placed (asked ring (last_hurried 400000 21))) 2 ∷ []

abbrev pub too_short : List Row
too_short =
    row (answered (asked (ring_of (18 ∷ 18 ∷ 18 ∷ [])) (ring_flows 400000))) 6 ∷
    row (placed (asked (ring_of (18 ∷ 18 ∷ 18 ∷ [])) (ring_flows 400000))) 0 ∷
    row (answered (asked (ring_of (1000 ∷ 18 ∷ 1000 ∷ [])) (ring_flows 400000))) 6 ∷
    row (placed (asked (ring_of (1000 ∷ 18 ∷ 1000 ∷ [])) (ring_flows 400000))) 1 ∷ []

-- what fails several tests is refused by the first, in the order 7, 4, 5, 6
abbrev pub in_order : List Row
in_order =
    row (answered (asked ring (replicate 257 (first 400000)))) 7 ∷
    row (answered (asked ring (replicate 256 (first 400000)))) 4 ∷
    row (answered (asked (ring_of (18 ∷ 18 ∷ 18 ∷ [])) (all_hurried 600000 21))) 4 ∷
    row (answered (asked (ring_of (18 ∷ 18 ∷ 18 ∷ [])) (all_hurried 400000 21))) 5 ∷ []

abbrev pub example_table : List Row
example_table = examples ++ fitting ++ too_much ++ too_late ++ too_short ++ in_order

abbrev pub WorkedTable : Type 0
WorkedTable = Hold example_table
