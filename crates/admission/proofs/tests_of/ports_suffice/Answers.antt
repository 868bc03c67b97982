use Rattle.std.proofs.Common.{◌∙◌, refl, arith, rules, tests}
use Rattle.std.proofs.lemmas.Iterator.{YieldsList-from_range}
use Rattle.std.proofs.lemmas.Iterator.Search.{find_from_yields_List}
use Rattle.promises.specs.Models.{loads_model}
use Rattle.admission.specs.declared.refusal.Refusal.TheVariants.{Promised}
use Rattle.admission.specs.Tests.{over_promised}
use Rattle.admission.proofs.LowestLaws.{lowest_made}
use Rattle.admission.proofs.tests_of.ports_suffice.Goals as goal

pub returns : goal.returns
returns c =
    let test = over_promised (loads_model c.args.demand.now.loads) in
    let n = c.args.net.now.count in
    c.refused_for.ensures ∙ lowest_made Promised _ c.find-promised.result c.map.result test n (λ x y q. search (rules, tests)) c.map.ensures.cases
    (find_from_yields_List test _ _ c.find-promised.result c.find-promised.ensures.ran (YieldsList-from_range 0 n n refl (omega arith)) (λ x b q k. search (rules, tests)))
