use Rattle.device.proofs.StartLaws.{edges_go, edges_end}
use Rattle.device.proofs.edges.edges_of.Goals as goal

pub loop-place-preserved : goal.loop-place-preserved
loop-place-preserved c =
    edges_go c.args.port c.loop-place.place c.args.flows.now c.index-flows-place.result c.index-flows-place.result _ _ _ c.loop-place-test.true c.index-flows-place.is
    c.in_ok-add_edge.ensures c.loop-place.invariant

pub returns : goal.returns
returns c = edges_end c.args.port c.loop-place.place c.args.flows.now _ _ c.loop-place-test.false c.loop-place.invariant
