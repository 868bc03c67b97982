use Rattle.std.proofs.Common.{eqb, refl, rules}
use Rattle.std.proofs.lemmas.List.Recursion.{or_is}
use Rattle.flows.specs.FlowFormat.{passes}
use Rattle.flows.proofs.road.on_road.Goals as goal

pub returns : goal.returns
unfolding passes
returns c = or_is (passes c.args.port) (λ q. eqb c.args.port q) refl (λ _ _. refl) c.args.road.now 0 _ (search rules) (search rules)
