use Rattle.std.proofs.Common.{◌≡◌, Some, length, ap, arith}
use Rattle.record_bytes.proofs.Digits.{value_of_one}
use Rattle.record_bytes.proofs.number.U8Number.from_bytes.Goals as goal

pub returns : goal.returns
returns c =
    let bytes = c.args.bytes.now in
    let size : length bytes ≡ 1 = omega arith in
    let is = value_of_one bytes size in
    rw size (ap Some (omega arith))
