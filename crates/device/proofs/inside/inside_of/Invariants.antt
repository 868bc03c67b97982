use Rattle.std.proofs.Common.{◌≡◌, ◌++◌, map, vec_items}
use Rattle.bridge.specs.Held.{inside_state}
use Rattle.admission.specs.Plans.{plan_of}
use Rattle.device.specs.Starts.{at_rest, inside_before, inside_behind}
use Rattle.admission.specs.Rules.{flows_of}
use Rattle.device.proofs.inside.inside_of.Given as goal

abbrev pub invariant-loop-from : goal.invariant-loop-from
invariant-loop-from l =
    map inside_state (vec_items l.inside) ≡ map at_rest (inside_before l.port (flows_of (plan_of l.plan).flows) l.from)

abbrev pub invariant-loop-class : goal.invariant-loop-class
invariant-loop-class l =
    let fs = flows_of (plan_of l.plan).flows in
    map inside_state (vec_items l.inside) ≡ map at_rest (inside_before l.port fs l.from ++ inside_behind l.from l.port fs l.class)
