use Rattle.std.proofs.Common.{ℕ, cond, eqb, ◌^◌, refl, ◌∙◌, arith, rules, tests}
use Rattle.std.proofs.lemmas.Iterator.{YieldsList-from_range, YieldsList-from_map}
use Rattle.std.proofs.lemmas.Iterator.Adapters.{fits_from_length}
use Rattle.std.proofs.lemmas.Iterator.Consumers.{sum_from_yields_List}
use Rattle.flows.specs.Net.{port_at}
use Rattle.flows.specs.Models.{net_of}
use Rattle.promises.specs.Models.{loads_model, pairs_model}
use Rattle.memory.specs.Needs.{whole_need, switch_needs}
use Rattle.memory.proofs.AddLaws.{few, added}
use Rattle.memory.proofs.needs.switch_need.Goals as goal

pub sum-requires-clause-fits : goal.sum-requires-clause-fits
sum-requires-clause-fits c =
    fits_from_length _ _ 64 (2 ^ 128) (few _ 64 c.map.ensures.source (omega arith)) c.map.ensures.closure (omega arith) (λ x r q k. search rules)

pub returns : goal.returns
unfolding switch_needs
returns c =
    let net = net_of c.args.net.now in
    let loads = loads_model c.args.demand.now.loads in
    let pairs = pairs_model c.args.demand.now.pairs in
    let need : ℕ → ℕ = λ q. cond (eqb (port_at net q).switch c.args.switch) (whole_need loads pairs q) 0 in
    sum_from_yields_List c.map.result _ c.sum.ensures.ran
    (YieldsList-from_map _ need (YieldsList-from_range 0 c.args.net.now.count c.args.net.now.count c.map.ensures.source (omega arith)) c.map.ensures.closure (λ x r q k. search (rules, tests)))
    ∙ added need (switch_needs net loads pairs c.args.switch) refl (λ n. refl) c.args.net.now.count
