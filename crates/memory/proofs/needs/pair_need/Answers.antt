use Rattle.std.proofs.Common.{◌+◌, ◌*◌, ◌^◌, ◌<◌, fold, refl, ◌∙◌, arith, rules, tests}
use Rattle.std.proofs.lemmas.Iterator.{YieldsList-from_range, YieldsList-from_map}
use Rattle.std.proofs.lemmas.Iterator.Adapters.{fits_from_length}
use Rattle.std.proofs.lemmas.Iterator.Consumers.{sum_from_yields_List}
use Rattle.promises.specs.Models.{load_model}
use Rattle.memory.specs.Needs.{class_need, class_needs}
use Rattle.memory.proofs.AddLaws.{few, added}
use Rattle.memory.proofs.needs.pair_need.Goals as goal

pub sum-requires-clause-fits : goal.sum-requires-clause-fits
sum-requires-clause-fits c =
    fits_from_length _ _ 8 (2 ^ 128) (few 8 8 c.map.ensures.source (omega arith)) c.map.ensures.closure (omega arith) (λ x r q k. search rules)

pub returns-clause-value : goal.returns-clause-value
unfolding class_needs
returns-clause-value c =
    let port = load_model c.args.port.now in
    let pair = load_model c.args.pair.now in
    let need = class_need port pair in
    sum_from_yields_List c.map.result _ c.sum.ensures.ran
    (YieldsList-from_map _ need (YieldsList-from_range 0 8 8 c.map.ensures.source (omega arith)) c.map.ensures.closure (λ x r q k. search (rules, tests)))
    ∙ added need (class_needs port pair) refl (λ n. refl) 8

pub returns-clause-small : goal.returns-clause-small
returns-clause-small c =
    let run = c.sum.ensures.runs tt in
    let below : fold (λ a x. a + x) 0 run.0.items < 8 * 2 ^ 97 + 1 =
    fits_from_length _ _ 8 (8 * 2 ^ 97 + 1) (few 8 8 c.map.ensures.source (omega arith)) c.map.ensures.closure (omega arith) (λ x r q k. search rules) run.0 run.0.seen run.1 in
    omega (arith, run.3)
