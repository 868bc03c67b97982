use Rattle.std.proofs.Common.{ℕ, get_or, ◌+◌, ◌*◌, ◌^◌, ◌<◌, fold, refl, ◌∙◌, arith, rules, tests}
use Rattle.std.proofs.lemmas.Iterator.{YieldsList-from_range, YieldsList-from_map}
use Rattle.std.proofs.lemmas.Iterator.Adapters.{fits_from_length}
use Rattle.std.proofs.lemmas.Iterator.Consumers.{sum_from_yields_List}
use Rattle.promises.specs.Loads.{no_load, pair_at}
use Rattle.promises.specs.Models.{loads_model, pairs_model}
use Rattle.memory.specs.Needs.{class_needs, regulator_needs}
use Rattle.memory.proofs.AddLaws.{few, added}
use Rattle.memory.proofs.needs.regulators_need.Goals as goal

pub sum-requires-clause-fits : goal.sum-requires-clause-fits
sum-requires-clause-fits c =
    fits_from_length _ _ 64 (2 ^ 128) (few 64 64 c.map.ensures.source (omega arith)) c.map.ensures.closure (omega arith) (λ x r q k. search rules)

pub returns-clause-value : goal.returns-clause-value
unfolding regulator_needs
returns-clause-value c =
    let loads = loads_model c.args.demand.now.loads in
    let pairs = pairs_model c.args.demand.now.pairs in
    let need : ℕ → ℕ = λ p. class_needs (get_or loads p no_load) (pair_at pairs p c.args.q) 8 in
    sum_from_yields_List c.map.result _ c.sum.ensures.ran
    (YieldsList-from_map _ need (YieldsList-from_range 0 64 64 c.map.ensures.source (omega arith)) c.map.ensures.closure (λ x r q k. search (rules, tests)))
    ∙ added need (regulator_needs loads pairs c.args.q) refl (λ n. refl) 64

pub returns-clause-small : goal.returns-clause-small
returns-clause-small c =
    let run = c.sum.ensures.runs tt in
    let below : fold (λ a x. a + x) 0 run.0.items < 512 * 2 ^ 97 + 1 =
    fits_from_length _ _ 64 (512 * 2 ^ 97 + 1) (few 64 64 c.map.ensures.source (omega arith)) c.map.ensures.closure (omega arith) (λ x r q k. search rules) run.0 run.0.seen run.1 in
    omega (arith, run.3)
