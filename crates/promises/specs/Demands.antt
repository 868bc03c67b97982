-- What flows ask of a net, with a flow more. Assumes nothing.
use Rattle.std.specs.Prelude.{◌≡◌, ◌⊎◌, Some, None, Option}
use Rattle.flows.specs.Flow.{FlowModel}
use Rattle.promises.specs.declared.demand.Demand.{Demand}
use Rattle.promises.specs.Loads.{loads_with, loads_until, pairs_with, pairs_until}
use Rattle.promises.specs.Models.{loads_model, pairs_model}

-- The sums of each port and those between each two with a flow more; None where one of them would pass 32 bits. Then
-- those before it on the road have the flow, first of the ports and then between them.
abbrev pub Grown : Demand → FlowModel → Option (Unit {0}) → Demand → Type 0
Grown before f (Some _) after =
    (loads_with f f.road (loads_model before.loads) ≡ Some (loads_model after.loads)) ×
    (pairs_with f f.road (pairs_model before.pairs) ≡ Some (pairs_model after.pairs))
Grown before f None after =
    ((loads_with f f.road (loads_model before.loads) ≡ None) ×
    (loads_model after.loads ≡ loads_until f f.road (loads_model before.loads)) × (pairs_model after.pairs ≡ pairs_model before.pairs)) ⊎
    ((loads_with f f.road (loads_model before.loads) ≡ Some (loads_model after.loads)) ×
    (pairs_with f f.road (pairs_model before.pairs) ≡ None) × (pairs_model after.pairs ≡ pairs_until f f.road (pairs_model before.pairs)))
