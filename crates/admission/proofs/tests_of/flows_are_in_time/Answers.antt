use Rattle.std.proofs.Common.{ap, ◌∙◌, rules, tests}
use Rattle.std.specs.Option.{option_map}
use Rattle.std.proofs.lemmas.Iterator.{YieldsList-from_slice}
use Rattle.std.proofs.lemmas.Iterator.Search.{find_from_yields_List}
use Rattle.flows.specs.Models.{net_of, flow_of}
use Rattle.promises.specs.Models.{loads_model}
use Rattle.admission.specs.declared.refusal.Refusal.TheVariants.{Late}
use Rattle.admission.specs.declared.refusal.Numbered.{Numbered}
use Rattle.admission.specs.Tests.{is_late}
use Rattle.admission.proofs.FoundLaws.{made_by_map}
use Rattle.admission.proofs.LateLaws.{late_find}
use Rattle.admission.proofs.tests_of.flows_are_in_time.Goals as goal

pub returns : goal.returns
returns c =
    let net = net_of c.args.net.now in
    let loads = loads_model c.args.demand.now.loads in
    c.refused_for.ensures ∙ made_by_map (λ x. x.now) (λ (n : Numbered). Late n.number) _ c.find-late.result c.map.result (λ x y q. search (rules, tests)) c.map.ensures.cases ∙
    ap (option_map (λ (n : Numbered). Late n.number))
    (find_from_yields_List (λ (n : Numbered). is_late net loads (flow_of n.flow)) c.find-late.new.self _ c.find-late.result c.find-late.ensures.ran
    (YieldsList-from_slice c.args.flows.now cc) (λ x b q k. search (rules, tests)))
    ∙ late_find net loads Late c.args.flows.now
