use Rattle.std.proofs.Common.{◌+◌, ◌^◌, ◌<◌, take, fold, ◌∙◌, arith, rules, tests}
use Rattle.std.proofs.lemmas.Grind.{common_steps}
use Rattle.std.proofs.lemmas.Iterator.{YieldsList-from_slice, YieldsList-from_map}
use Rattle.std.proofs.lemmas.Iterator.Adapters.{fits_from_length}
use Rattle.std.proofs.lemmas.Iterator.Consumers.{sum_from_yields_List}
use Rattle.promises.proofs.SumLaws.{few_classes, fields_total}
use Rattle.promises.proofs.load.Load.rates_below.Goals as goal

pub sum-requires-clause-fits : goal.sum-requires-clause-fits
sum-requires-clause-fits c =
    let classes = take c.args.class c.args.self.now.classes in
    fits_from_length _ _ 8 (2 ^ 64) (few_classes 8 classes (cc (c.iter.ensures.rest, c.map.ensures.source)) (grind (arith, common_steps)))
    c.map.ensures.closure (omega arith) (λ x r q k. search rules)

pub returns-clause-value : goal.returns-clause-value
returns-clause-value c =
    let classes = take c.args.class c.args.self.now.classes in
    sum_from_yields_List c.map.result _ c.sum.ensures.ran
    (YieldsList-from_map _ (λ asked. asked.rates) (YieldsList-from_slice classes (cc (c.iter.ensures.rest, c.map.ensures.source)))
    c.map.ensures.closure (λ x r q k. search (rules, tests)))
    ∙ fields_total (λ asked. asked.rates) c.args.class c.args.self.now.classes

pub returns-clause-small : goal.returns-clause-small
returns-clause-small c =
    let classes = take c.args.class c.args.self.now.classes in
    let run = c.sum.ensures.runs tt in
    let below : fold (λ a x. a + x) 0 run.0.items < 34359738361 =
    fits_from_length _ _ 8 34359738361 (few_classes 8 classes (cc (c.iter.ensures.rest, c.map.ensures.source)) (grind (arith, common_steps)))
    c.map.ensures.closure (omega arith) (λ x r q k. search rules) run.0 run.0.seen run.1 in
    omega (arith, run.3)
