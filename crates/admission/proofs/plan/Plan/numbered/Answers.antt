use Rattle.std.proofs.Common.{◌==◌, vec_items, ap, ◌∙◌, rules, tests}
use Rattle.std.specs.Option.{option_map}
use Rattle.std.proofs.lemmas.Iterator.{YieldsList-from_slice}
use Rattle.std.proofs.lemmas.Iterator.Search.{find_from_yields_List}
use Rattle.flows.specs.Models.{flow_of}
use Rattle.admission.specs.declared.refusal.Numbered.{Numbered}
use Rattle.admission.proofs.DueLaws.{number_find, flow_found}
use Rattle.admission.proofs.FoundLaws.{made_by_map}
use Rattle.admission.proofs.plan.Plan.numbered.Goals as goal

pub returns : goal.returns
returns c =
    let ns = vec_items c.args.self.now.flows in
    ap (option_map flow_of) (made_by_map (λ x. x.now) (λ (n : Numbered). n.flow) _ c.find.result c.map.result (λ x y q. search (rules, tests)) c.map.ensures.cases)
    ∙ flow_found _
    ∙ ap (option_map (λ (n : Numbered). flow_of n.flow))
    (find_from_yields_List (λ (n : Numbered). n.number == c.args.number) c.find.new.self _ c.find.result c.find.ensures.ran
    (YieldsList-from_slice ns cc) (λ x b q k. search (rules, tests)))
    ∙ number_find c.args.number ns
