use Rattle.std.proofs.Common.{◌≡◌}
use Rattle.std.specs.Slice.Iter.{windows_rest, windows_size}
use Rattle.promises.specs.Loads.{pairs_along}
use Rattle.promises.specs.Models.{pairs_model}
use Rattle.promises.proofs.pairs.Pairs.follow.Given as goal

abbrev pub invariant-loop-hop : goal.invariant-loop-hop
invariant-loop-hop l = record {
  can : (goal.iterator-loop-hop).can_next l.hop-iterator;
  finite : (goal.iterator-loop-hop).is_finite l.hop-iterator;
  two : windows_size l.hop-iterator ≡ 2;
  follows : pairs_along (windows_rest l.hop-iterator) (pairs_model l.other) (pairs_model l.self) ≡
      pairs_along l.road (pairs_model l.other) (pairs_model l.initial.self);
}
