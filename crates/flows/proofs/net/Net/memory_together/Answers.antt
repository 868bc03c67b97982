use Rattle.std.proofs.Common.{◌^◌, ◌≤◌, length, take, refl, arith, rules}
use Rattle.std.proofs.lemmas.Iterator.{YieldsList-from_slice}
use Rattle.std.proofs.lemmas.Iterator.Adapters.{fits_from_length, at_most_from_yields_List}
use Rattle.std.proofs.lemmas.List.{length-take}
use Rattle.std.proofs.lemmas.List.Recursion.{is_sum_by}
use Rattle.flows.specs.Net.{together}
use Rattle.flows.proofs.net.Net.memory_together.Goals as goal

pub returns : goal.returns
unfolding together
returns c = search (rules, is_sum_by together (λ m. m) refl (λ _ _. refl))

pub sum-requires-clause-fits : goal.sum-requires-clause-fits
sum-requires-clause-fits c =
    let memories = take c.args.self.now.switches c.args.self.now.memory in
    let few : length memories ≤ 255 = omega (arith, length-take c.args.self.now.switches c.args.self.now.memory) in
    fits_from_length _ _ 255 (2 ^ 64)
    (at_most_from_yields_List (YieldsList-from_slice memories (cc (c.memories.ensures, c.iter.ensures.rest, c.map.ensures.source))) few)
    c.map.ensures.closure (omega arith) (λ x r q k. search rules)
