-- The ports of a plan are ports of which all is said that is said of one port. Assumes nothing.
use Rattle.std.specs.Prelude.{◌≡◌, ℕ, ◌<◌, ◌≤◌, Bool, true, ◌⊎◌, List, [], ◌∷◌, map, length}
use Rattle.std.specs.List.{list_any, AllByRecursion as Each}
use Rattle.flows.specs.Flow.{FlowModel}
use Rattle.promises.specs.Promises.{goes, port_need, regulator_need}
use Rattle.port.specs.Port.{flow_at}
use Rattle.egress.specs.Plays.{Setup, Enough, Plays, left}
use Rattle.admission.specs.Rules.{flows_of}
use Rattle.admission.specs.Plans.{PlanModel}
use Rattle.bridge.specs.Ports.{Stand, edge, inside, is_edge}
use Rattle.bridge.specs.Comes.{of_source, of_port}
use Rattle.bridge.specs.Runs.{egress_of}
use Rattle.device.specs.Starts.{begins_at, some_goes, stands_at, port_at_start}

-- the class of each flow
abbrev pub classes_in : PlanModel → List ℕ
classes_in p = map (λ g. g.flow.class) p.flows

-- a flow enters the net at a port if its road begins there
abbrev pub enters_at : PlanModel → ℕ → ℕ → Bool
enters_at p port flow = begins_at port (flow_at (flows_of p.flows) flow).road

-- a port of a plan, with so many cells
abbrev pub setup_of : PlanModel → ℕ → ℕ → Setup
setup_of p port room =
    record {
      port = port;
      flows = flows_of p.flows;
      enters = enters_at p port;
      room = room;
      classes = classes_in p;
      edges = map is_edge (stands_at p port);
    }

-- With a cell for each tick that its queues need it is one of which the laws of a port speak, and begins as they do.
pub record Begins (p : PlanModel) (port room : ℕ) : Type 0 where
  pub enough : Enough (setup_of p port room)
  pub plays : Plays (setup_of p port room) left (egress_of 0 (port_at_start p port))

abbrev pub PortBegins : PlanModel → ℕ → Type 0
PortBegins p port =
    (room : ℕ) → port < length p.net.ports → port_need port (flows_of p.flows) ≤ room → Begins p port room

-- a regulator of a flow that enters the net here; or one that a flow goes through, with what it needs
abbrev pub IsNeeded : ℕ → List FlowModel → Stand → Type 0
IsNeeded port fs (edge k) = (k < length fs) × (begins_at port (flow_at fs k).road ≡ true)
IsNeeded port fs (inside q c aside) = (some_goes q port c fs ≡ true) × (aside ≡ regulator_need q port c fs)

-- edge regulators are opened first, in rising number of the flows; then those inside, in rising number of the port before, and for one
-- such port in rising class
abbrev pub Earlier : Stand → Stand → Type 0
Earlier (edge k) (edge j) = k < j
Earlier (edge k) (inside r d other) = Unit {0}
Earlier (inside q c aside) (edge j) = ⊥
Earlier (inside q c aside) (inside r d other) = (q < r) ⊎ ((q ≡ r) × (c < d))

-- each is earlier than all behind it
abbrev pub InOrder : List Stand → Type 0
InOrder [] = Unit {0}
InOrder (stand ∷ stands) = Each (Earlier stand) stands × InOrder stands

-- Each flow that enters the net at the port has its regulator there; each that goes there from another port has that of this port and
-- its class; there is no other; and they stand in the order in which they are opened, none twice.
pub record Regulated (p : PlanModel) (port : ℕ) : Type 0 where
  pub entering : (k : ℕ) → k < length p.flows → enters_at p port k ≡ true → list_any (of_source k) (stands_at p port) ≡ true
  pub coming : (q k : ℕ) → k < length p.flows → goes q port (flow_at (flows_of p.flows) k).road ≡ true →
      list_any (of_port q (flow_at (flows_of p.flows) k).class) (stands_at p port) ≡ true
  pub needed : Each (IsNeeded port (flows_of p.flows)) (stands_at p port)
  pub order : InOrder (stands_at p port)

pub record PlanLaws (p : PlanModel) (port : ℕ) : Type 0 where
  pub begins : PortBegins p port
  pub regulated : Regulated p port
