use Rattle.std.proofs.Common.{◌≡◌, drop}
use Rattle.flows.specs.Models.{flow_of}
use Rattle.promises.specs.Loads.{loads_with, loads_until}
use Rattle.promises.specs.Models.{loads_model}
use Rattle.promises.proofs.loads.Loads.add.Given as goal

abbrev pub invariant-loop-port : goal.invariant-loop-port
invariant-loop-port l = record {
  told : loads_with (flow_of l.flow) (drop l.port-index l.port-items) (loads_model l.self) ≡
      loads_with (flow_of l.flow) (flow_of l.flow).road (loads_model l.initial.self);
  left : loads_until (flow_of l.flow) (drop l.port-index l.port-items) (loads_model l.self) ≡
      loads_until (flow_of l.flow) (flow_of l.flow).road (loads_model l.initial.self);
}
