use Rattle.std.proofs.Common.{◌≡◌}
use Rattle.std.specs.Slice.Iter.{windows_rest, windows_size}
use Rattle.flows.specs.Models.{flow_of}
use Rattle.promises.specs.Loads.{pairs_with, pairs_until}
use Rattle.promises.specs.Models.{pairs_model}
use Rattle.promises.proofs.pairs.Pairs.add.Given as goal

abbrev pub invariant-loop-hop : goal.invariant-loop-hop
invariant-loop-hop l = record {
  can : (goal.iterator-loop-hop).can_next l.hop-iterator;
  finite : (goal.iterator-loop-hop).is_finite l.hop-iterator;
  two : windows_size l.hop-iterator ≡ 2;
  told : pairs_with (flow_of l.flow) (windows_rest l.hop-iterator) (pairs_model l.self) ≡
      pairs_with (flow_of l.flow) (flow_of l.flow).road (pairs_model l.initial.self);
  left : pairs_until (flow_of l.flow) (windows_rest l.hop-iterator) (pairs_model l.self) ≡
      pairs_until (flow_of l.flow) (flow_of l.flow).road (pairs_model l.initial.self);
}
