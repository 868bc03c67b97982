-- What the values of the code stand for. Assumes nothing.
use Rattle.flows.specs.Net.{NetModel, net_model}
use Rattle.flows.specs.Flow.{FlowModel, flow_model}
use Rattle.flows.specs.declared.net.Net.{Net}
use Rattle.flows.specs.declared.flow.Flow.{Flow}

abbrev pub net_of : Net → NetModel
net_of n = net_model n.ports n.count n.memory n.switches

abbrev pub flow_of : Flow → FlowModel
flow_of f = flow_model f.class f.longest f.burst f.rate f.deadline f.road f.hops
