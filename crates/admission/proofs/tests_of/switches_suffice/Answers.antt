use Rattle.std.proofs.Common.{◌∙◌, refl, arith, rules, tests}
use Rattle.std.proofs.lemmas.Iterator.{YieldsList-from_range}
use Rattle.std.proofs.lemmas.Iterator.Search.{find_from_yields_List}
use Rattle.flows.specs.Models.{net_of}
use Rattle.promises.specs.Models.{loads_model, pairs_model}
use Rattle.admission.specs.declared.refusal.Refusal.TheVariants.{Memory}
use Rattle.admission.specs.Tests.{is_short}
use Rattle.admission.proofs.LowestLaws.{lowest_made}
use Rattle.admission.proofs.tests_of.switches_suffice.Goals as goal

pub returns : goal.returns
returns c =
    let test = is_short (net_of c.args.net.now) (loads_model c.args.demand.now.loads) (pairs_model c.args.demand.now.pairs) c.args.net.now.count in
    let n = c.args.net.now.switches in
    c.refused_for.ensures ∙ lowest_made Memory _ c.find-short.result c.map.result test n (λ x y q. search (rules, tests)) c.map.ensures.cases
    (find_from_yields_List test _ _ c.find-short.result c.find-short.ensures.ran (YieldsList-from_range 0 n n refl (omega arith)) (λ x b q k. search (rules, tests)))
