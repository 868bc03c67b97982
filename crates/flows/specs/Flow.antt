-- Flows, and the roads they take through a net. Assumes nothing.
use Rattle.std.specs.Prelude.{◌≡◌, ℕ, ◌<◌, ◌≤◌, List, [], ◌∷◌, length, take, ◌≢◌}
use Rattle.std.specs.List.{AllByRecursion as Each}
use Rattle.flows.specs.Net.{NetModel, port_at}

-- Lengths and bursts are in ticks of sending, rates in millionths of a port, deadlines in ticks. A lower class goes first.
-- The road is the ports that the flow passes, in their order.
pub record FlowModel : Type 0 where
  pub class : ℕ
  pub longest : ℕ
  pub burst : ℕ
  pub rate : ℕ
  pub deadline : ℕ
  pub road : List ℕ

-- a flow in a table of sixteen ports, of which the first hops are in use
abbrev pub flow_model : ℕ → ℕ → ℕ → ℕ → ℕ → List ℕ → ℕ → FlowModel
flow_model class longest burst rate deadline road hops =
    record { class = class; longest = longest; burst = burst; rate = rate; deadline = deadline; road = take hops road }

-- the ranges of a flow, whatever the net
pub record InRange (f : FlowModel) : Type 0 where
  pub class_low : f.class ≤ 7
  pub longest_some : 1 ≤ f.longest
  pub longest_byte : f.longest ≤ 255
  pub burst_holds : f.longest ≤ f.burst
  pub burst_short : f.burst ≤ 65535
  pub rate_some : 1 ≤ f.rate
  pub rate_whole : f.rate ≤ 1000000
  pub deadline_word : f.deadline < 4294967296
  pub road_some : 1 ≤ length f.road
  pub road_few : length f.road ≤ 16

-- no port stands twice on a road
abbrev pub Once : List ℕ → Type 0
Once [] = Unit {0}
Once (p ∷ ps) = Each (λ q. q ≢ p) ps × Once ps

-- each port stands on the switch where the wire of the one before ends
abbrev pub Joined : NetModel → List ℕ → Type 0
Joined net [] = Unit {0}
Joined net (p ∷ []) = Unit {0}
Joined net (p ∷ q ∷ ps) = ((port_at net q).switch ≡ (port_at net p).ends) × Joined net (q ∷ ps)

-- a road through a net
pub record IsRoad (net : NetModel) (road : List ℕ) : Type 0 where
  pub known : Each (λ p. p < length net.ports) road
  pub once : Once road
  pub connected : Joined net road

-- a flow of a net
pub record SoundFlow (net : NetModel) (f : FlowModel) : Type 0 where
  pub ranges : InRange f
  pub route : IsRoad net f.road
