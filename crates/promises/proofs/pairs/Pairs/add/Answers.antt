use Rattle.std.proofs.Common.{◌≤◌, ◌∷◌, length, get_or, drop, sym, ap, ◌∙◌, arith}
use Rattle.std.specs.Option.{option_map}
use Rattle.std.specs.Slice.Iter.{windows_rest}
use Rattle.flows.specs.Models.{flow_of}
use Rattle.promises.specs.Loads.{pairs_with, pairs_until}
use Rattle.promises.specs.Models.{load_model, pairs_model}
use Rattle.promises.proofs.PairLaws.{window_front, pairs_full, pairs_more, one_left}
use Rattle.promises.proofs.pairs.Pairs.add.Goals as goal

pub returns-in_err-load-clause-left : goal.returns-in_err-load-clause-left
returns-in_err-load-clause-left c =
    let f = flow_of c.args.flow.now in
    let tables = pairs_model c.loop-hop.self in
    let front = window_front _ c.in-Some.hop.now _ _ c.loop-hop.invariant.two c.in-Some.ensures.steps.1 in
    (pairs_full f tables _ _ _ _ c.pair.ensures c.in_err-load.ensures).1 ∙ sym (ap (λ ps. pairs_until f ps tables) front.0) ∙ c.loop-hop.invariant.left

pub returns-in_err-load-clause-told : goal.returns-in_err-load-clause-told
returns-in_err-load-clause-told c =
    let f = flow_of c.args.flow.now in
    let tables = pairs_model c.loop-hop.self in
    let front = window_front _ c.in-Some.hop.now _ _ c.loop-hop.invariant.two c.in-Some.ensures.steps.1 in
    ap (option_map (λ _. tables)) c.from_residual.ensures
    ∙ (pairs_full f tables _ _ _ _ c.pair.ensures c.in_err-load.ensures).0 ∙ sym (ap (λ ps. pairs_with f ps tables) front.0) ∙ c.loop-hop.invariant.told

pub loop-hop-preserved : goal.loop-hop-preserved
loop-hop-preserved c =
    let f = flow_of c.args.flow.now in
    let tables = pairs_model c.loop-hop.self in
    let steps = c.in-Some.ensures.steps in
    let front = window_front _ c.in-Some.hop.now _ _ c.loop-hop.invariant.two steps.1 in
    let rest = get_or c.in-Some.hop.now 1 0 ∷ drop 2 (windows_rest c.loop-hop.hop-iterator) in
    let more = pairs_more f tables _ _ _ _ c.pair.ensures (load_model c.in_ok-load.load) c.in_ok-load.ensures in
    record {
      can = omega (arith, steps.0);
      finite = tt;
      two = steps.0 ∙ c.loop-hop.invariant.two;
      told = ap (λ ps. pairs_with f ps (pairs_model c.put.new.self)) front.1
          ∙ ap (pairs_with f rest) c.put.ensures ∙ more.0 ∙ sym (ap (λ ps. pairs_with f ps tables) front.0) ∙ c.loop-hop.invariant.told;
      left = ap (λ ps. pairs_until f ps (pairs_model c.put.new.self)) front.1
          ∙ ap (pairs_until f rest) c.put.ensures ∙ more.1 ∙ sym (ap (λ ps. pairs_until f ps tables) front.0) ∙ c.loop-hop.invariant.left;
    }

pub returns : goal.returns
returns c =
    let f = flow_of c.args.flow.now in
    let tables = pairs_model c.loop-hop.self in
    let road = windows_rest c.loop-hop.hop-iterator in
    let few : length road ≤ 1 = omega (arith, c.in-None.ensures.steps.1.0, c.loop-hop.invariant.two) in
    let end = one_left f road tables few in
    record {
      left = sym end.1 ∙ c.loop-hop.invariant.left;
      told = sym end.0 ∙ c.loop-hop.invariant.told;
    }
