use Rattle.std.proofs.Common.{◌<◌, length, arith}
use Rattle.record_bytes.proofs.Taking.{taking, missing}
use Rattle.record_bytes.proofs.reader.Reader.number.Goals as goal

pub returns-in_err-bytes-clause-value : goal.returns-in_err-bytes-clause-value
returns-in_err-bytes-clause-value g c =
    let v = c.in_err-bytes.ensures.variant in
    let z = c.SIZE.ensures in
    let few : length c.args.self.now.rest.now < g.T.Number.SIZE = grind (arith, v) in
    rw (c.from_residual.ensures, c.in_err-bytes.ensures.cases) (missing _ _ c.args.self.now.rest.now few)

pub returns-clause-value : goal.returns-clause-value
returns-clause-value g c =
    let s = c.in_ok-bytes.ensures.cases in
    let size = c.SIZE.ensures in
    rw c.SIZE-2.ensures (taking _ _ _ _ _ _ _ (rw size at s.0) c.from_bytes.ensures (rw size at s.1) (rw size at s.2))
