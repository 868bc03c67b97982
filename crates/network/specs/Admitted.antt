-- Flows that are admitted together, and what comes from their sources. Assumes nothing.
use Rattle.std.specs.Prelude.{ℕ, ◌<◌, ◌≤◌, List, length}
use Rattle.std.specs.List.{AllByRecursion as Each}
use Rattle.flows.specs.Net.{NetModel}
use Rattle.flows.specs.Flow.{FlowModel, SoundFlow}
use Rattle.admission.specs.Rules.{Fits}
use Rattle.port.specs.Port.{flow_at}
use Rattle.network.specs.Network.{Sourced}

-- a packet from a source is of a flow that there is, and at most as long as its longest
pub record OfFlow (fs : List FlowModel) (x : Sourced) : Type 0 where
  pub listed : x.flow < length fs
  pub some : 1 ≤ x.length
  pub short : x.length ≤ (flow_at fs x.flow).longest

-- the flows are flows of the net and fit it together; each tick has a row of packets from sources
pub record Admitted (net : NetModel) (fs : List FlowModel) (rows : ℕ → List Sourced) : Type 0 where
  pub sound : Each (SoundFlow net) fs
  pub fits : Fits net fs
  pub sources : (t : ℕ) → Each (OfFlow fs) (rows t)
