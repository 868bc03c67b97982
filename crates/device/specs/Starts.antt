-- The ports that a plan makes, by net and flows alone. Assumes nothing.
use Rattle.std.specs.Prelude.{ℕ, zero, suc, ◌+◌, Bool, false, cond, ◌&&◌, List, [], ◌∷◌, ◌++◌, map, length, replicate, None, ◌==◌}
use Rattle.std.specs.List.{list_any}
use Rattle.flows.specs.Flow.{FlowModel}
use Rattle.promises.specs.Promises.{goes, regulator_need}
use Rattle.levels.specs.Levels.{full_level}
use Rattle.admission.specs.Rules.{flows_of}
use Rattle.admission.specs.Plans.{PlanModel}
use Rattle.bridge.specs.Ports.{Stand, edge, inside, GateState, PortState}

-- a road begins at this port
abbrev pub begins_at : ℕ → List ℕ → Bool
begins_at port [] = false
begins_at port (p ∷ ps) = p == port

-- the regulator at the edge of the flow of place k, where the flow enters the net at the port
abbrev pub edge_one : ℕ → ℕ → FlowModel → List Stand
edge_one port k f = cond (begins_at port f.road) (edge k ∷ []) []

-- those of all flows, in the order of admission, of which the first has place k
unfoldable pub edges_from : ℕ → ℕ → List FlowModel → List Stand
edges_from port k [] = []
edges_from port k (f ∷ fs) = edge_one port k f ++ edges_from port (k + 1) fs

-- a flow of class c goes from port p directly to port q
abbrev pub some_goes : ℕ → ℕ → ℕ → List FlowModel → Bool
some_goes p q c fs = list_any (λ (f : FlowModel). f.class == c && goes p q f.road) fs

-- the regulator (p, q, c), where a flow goes through it, with what it needs set aside
abbrev pub inside_one : ℕ → ℕ → ℕ → List FlowModel → List Stand
inside_one p q c fs = cond (some_goes p q c fs) (inside p c (regulator_need p q c fs) ∷ []) []

-- those of the first n classes
unfoldable pub inside_behind : ℕ → ℕ → List FlowModel → ℕ → List Stand
inside_behind p q fs zero = []
inside_behind p q fs (suc n) = inside_behind p q fs n ++ inside_one p q n fs

-- those behind the first n ports
unfoldable pub inside_before : ℕ → List FlowModel → ℕ → List Stand
inside_before q fs zero = []
inside_before q fs (suc n) = inside_before q fs n ++ inside_behind n q fs 8

-- nobody waits at a regulator, and nobody comes
abbrev pub at_rest : Stand → GateState
at_rest stand = record { stand = stand; waits = []; coming = [] }

-- where the regulators before the port stand: those at the edge first, then those inside by the port before and the class
abbrev pub stands_at : PlanModel → ℕ → List Stand
stands_at p port = edges_from port 0 (flows_of p.flows) ++ inside_before port (flows_of p.flows) (length p.net.ports)

-- a port of a plan: nobody at the regulators, full levels, empty queues, and nothing being sent
abbrev pub port_at_start : PlanModel → ℕ → PortState
port_at_start p port =
    record {
      gates = map at_rest (stands_at p port);
      levels = map (λ f. full_level f.burst f.rate) (flows_of p.flows);
      queues = replicate 8 [];
      sending = None;
    }
