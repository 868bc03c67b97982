use Rattle.std.proofs.Common.{◌≡◌, ◌*◌, ◌≤◌, length}
use Rattle.flows.specs.Models.{net_of}
use Rattle.promises.specs.Loads.{loads_dues}
use Rattle.promises.specs.Models.{loads_model}
use Rattle.promises.proofs.DueLaws.{Adds}
use Rattle.promises.proofs.loads.Loads.dues.Given as goal

abbrev pub invariant-loop-i : goal.invariant-loop-i
invariant-loop-i l = record {
  sized : length l.dues ≡ 16;
  small : l.ticks ≤ 34359738615065535 * l.i;
  adds : Adds (net_of l.net) (loads_model l.self) l.flow.class l.ticks l.i l.dues l.port-items
      (loads_dues (net_of l.net) (loads_model l.self) l.flow.class 0 l.port-items);
}
