use Rattle.std.proofs.Common.{◌∙◌, arith, length-set}
use Rattle.std.proofs.lemmas.Result.{err_from_is_err_and}
use Rattle.flows.proofs.RoadLaws.{goes_on_lem, goes-fault, goes_end}
use Rattle.flows.proofs.read_flow.read_road.Goals as goal

pub returns-in_err-road : goal.returns-in_err-road
returns-in_err-road c =
    let p = err_from_is_err_and c.from_residual.result c.from_residual.ensures.1 in
    rw (p.1, p.2)
    (goes-fault _ _ c.loop-i.i c.loop-i.road _ _ _ _ (rw c.from-i-end.ensures at c.loop-i-test.true) c.in_err-road.ensures c.loop-i.invariant.1)

pub loop-i-preserved : goal.loop-i-preserved
loop-i-preserved c = (
  length-set c.loop-i.road c.loop-i.i _ ∙ c.loop-i.invariant.0,
  goes_on_lem _ _ c.loop-i.i c.loop-i.road _ _ _ _ (rw c.from-i-end.ensures at c.loop-i-test.true) (omega (arith, c.loop-i.invariant.0)) c.in_ok-road.ensures c.loop-i.invariant.1,
)

pub returns : goal.returns
returns c =
    goes_end _ _ c.loop-i.i c.loop-i.road _ _ (rw c.from-i-end.ensures at c.loop-i-test.false) (rw c.from-i-end.ensures at c.loop-i.auto.i-end) c.loop-i.invariant.1
