use Rattle.std.proofs.Common.{◌≤◌, ◌∷◌, length, get_or, drop, sym, ap, ◌∙◌, arith}
use Rattle.std.specs.Slice.Iter.{windows_rest}
use Rattle.promises.specs.Loads.{put_pair, pairs_along}
use Rattle.promises.specs.Models.{pairs_model}
use Rattle.promises.proofs.PairLaws.{window_front, none_along}
use Rattle.promises.proofs.pairs.Pairs.follow.Goals as goal

pub loop-hop-preserved : goal.loop-hop-preserved
unfolding pairs_along
loop-hop-preserved c =
    let us = pairs_model c.args.other.now in
    let tables = pairs_model c.loop-hop.self in
    let road = windows_rest c.loop-hop.hop-iterator in
    let hop = c.in-Some.hop.now in
    let steps = c.in-Some.ensures.steps in
    let front = window_front road hop _ _ c.loop-hop.invariant.two steps.1 in
    record {
      can = omega (arith, steps.0);
      finite = tt;
      two = steps.0 ∙ c.loop-hop.invariant.two;
      follows = ap (λ ps. pairs_along ps us (pairs_model c.put.new.self)) front.1
          ∙ ap (pairs_along (get_or hop 1 0 ∷ drop 2 road) us) (c.put.ensures ∙ ap (put_pair tables (get_or hop 0 0) (get_or hop 1 0)) c.pair.ensures)
          ∙ sym (ap (λ ps. pairs_along ps us tables) front.0) ∙ c.loop-hop.invariant.follows;
    }

pub returns : goal.returns
returns c =
    let road = windows_rest c.loop-hop.hop-iterator in
    let few : length road ≤ 1 = omega (arith, c.in-None.ensures.steps.1.0, c.loop-hop.invariant.two) in
    sym (none_along road (pairs_model c.args.other.now) (pairs_model c.loop-hop.self) few) ∙ c.loop-hop.invariant.follows
