use Rattle.std.proofs.Common.{[], map, None, box_value, refl, ap, ◌∙◌}
use Rattle.admission.specs.Models.{numbered_model}
use Rattle.admission.specs.Rules.{flows_of}
use Rattle.admission.specs.Sound.{keeps_demand, tried_keeps, all_roads}
use Rattle.admission.proofs.KeepLaws.{none_kept}
use Rattle.admission.proofs.PlanLaws.{none_passes}
use Rattle.admission.proofs.plan.Plan.new.Goals as goal

pub invariant_of-result : goal.invariant_of-result
unfolding all_roads
invariant_of-result c =
    let empty = c.new-2.ensures.items in
    record {
      demand_kept = ap (λ ns. keeps_demand (box_value c.in_ok-demand.demand) (flows_of (map numbered_model ns))) empty
          ∙ ap (λ d. keeps_demand d []) c.in_ok-demand.ensures.ok ∙ none_kept c.none.result c.none.ensures.loads c.none.ensures.pairs;
      tried_kept = ap (λ ns. tried_keeps None (flows_of (map numbered_model ns))) empty;
      on_roads = rw empty refl;
      fits = rw empty (none_passes _);
    }
