use Rattle.std.proofs.Common.{◌≡◌, length, arith}
use Rattle.std.proofs.lemmas.Result.{err_from_is_err_and}
use Rattle.record_bytes.proofs.Several.{reads_on, reads_fault, reads_whole}
use Rattle.flows.proofs.read_net.read_all.Goals as goal

pub returns-in_err-place : goal.returns-in_err-place
returns-in_err-place g c =
    let p = err_from_is_err_and c.from_residual.result c.from_residual.ensures.1 in
    rw (p.1, p.2) (reads_fault _ _ g.T.Part.from _ _ _ _ _ c.loop-place-test.true c.in_err-place.ensures c.loop-place.invariant)

pub loop-place-preserved : goal.loop-place-preserved
loop-place-preserved g c =
    let size : length c.loop-place.place-items ≡ length c.args.places.now = c.loop-place.auto.place-items in
    reads_on _ c.loop-place.place-index g.T.Part.from c.loop-place.place-items _ _ _ _ c.loop-place-test.true (omega (arith, c.loop-place-test.true)) c.in_ok-place.ensures c.loop-place.invariant

pub returns : goal.returns
returns g c =
    reads_whole _ _ g.T.Part.from _ _ _ c.loop-place.auto.place-items c.loop-place-test.false c.loop-place.auto.place-index-end c.loop-place.invariant
