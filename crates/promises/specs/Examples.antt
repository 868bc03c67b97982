-- Worked examples, as rows of one table. Assumes nothing.
use Rattle.std.specs.Prelude.{◌≡◌, ℕ, List, [], ◌∷◌}
use Rattle.flows.specs.Net.{NetModel}
use Rattle.flows.specs.Flow.{FlowModel}
use Rattle.promises.specs.Promises.{promise, due, port_need, regulator_need, rates}

-- two classes at one port: bursts of 3 and 5, rates of 400,000 and 500,000, longest packets of 3 and 4
abbrev pub two_classes : List FlowModel
two_classes =
    record { class = 0; longest = 3; burst = 3; rate = 400000; deadline = 100; road = 0 ∷ [] } ∷
    record { class = 1; longest = 4; burst = 5; rate = 500000; deadline = 100; road = 0 ∷ [] } ∷ []

-- a ring of three ports on three switches, with wires of 2 ticks
abbrev pub ring : NetModel
ring =
    record {
      ports = record { switch = 0; ends = 1; wire = 2 } ∷ record { switch = 1; ends = 2; wire = 2 } ∷ record { switch = 2; ends = 0; wire = 2 } ∷ [];
      memories = 1000 ∷ 1000 ∷ 1000 ∷ [];
    }

-- a flow of class 0, burst 5 and this rate over two ports of the ring
abbrev pub ring_flow : ℕ → List ℕ → FlowModel
ring_flow rate road = record { class = 0; longest = 5; burst = 5; rate = rate; deadline = 100; road = road }

abbrev pub ring_flows : ℕ → List FlowModel
ring_flows rate = ring_flow rate (0 ∷ 1 ∷ []) ∷ ring_flow rate (1 ∷ 2 ∷ []) ∷ ring_flow rate (2 ∷ 0 ∷ []) ∷ []

-- each row: a number of the definitions, and what it is
pub record Row : Type 0 where
  pub computed : ℕ
  pub worked : ℕ

abbrev pub row : ℕ → ℕ → Row
row computed worked = record { computed = computed; worked = worked }

abbrev pub examples : List Row
examples =
    row (promise 0 0 two_classes) 7 ∷
    row (promise 0 1 two_classes) 13 ∷
    row (promise 0 0 (ring_flows 400000)) 10 ∷
    row (promise 1 0 (ring_flows 400000)) 10 ∷
    row (promise 2 0 (ring_flows 400000)) 10 ∷
    row (due ring (ring_flows 400000) (ring_flow 400000 (0 ∷ 1 ∷ []))) 22 ∷
    row (due ring (ring_flows 400000) (ring_flow 400000 (1 ∷ 2 ∷ []))) 22 ∷
    row (due ring (ring_flows 400000) (ring_flow 400000 (2 ∷ 0 ∷ []))) 22 ∷
    row (port_need 0 (ring_flows 400000)) 10 ∷
    row (regulator_need 0 1 0 (ring_flows 400000)) 9 ∷
    row (rates 1 (ring_flow 600000 (0 ∷ 1 ∷ []) ∷ ring_flow 600000 (1 ∷ 2 ∷ []) ∷ [])) 1200000 ∷ []

abbrev pub Hold : List Row → Type 0
Hold [] = Unit {0}
Hold (r ∷ rs) = (r.computed ≡ r.worked) × Hold rs

abbrev pub WorkedExamples : Type 0
WorkedExamples = Hold examples
