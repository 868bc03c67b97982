use Rattle.std.proofs.Common.{◌≡◌, refl, arith}
use Rattle.record_bytes.specs.Numbers.{value}
use Rattle.record_bytes.proofs.Digits.{value_of_two, whole_chunk}
use Rattle.record_bytes.proofs.number.U16Number.from_bytes.Goals as goal

pub returns : goal.returns
returns c =
    let bytes = c.args.bytes.now in
    let whole = whole_chunk bytes c.in_ok-bytes.bytes 2 c.try_from.result c.try_from.ensures.1 c.in_ok-bytes.ensures.value in
    let is = value_of_two bytes whole.0 in
    let read = rw whole.1 at c.from_be_bytes.ensures in
    let same : c.from_be_bytes.result ≡ value bytes = omega arith in
    rw (whole.0, same) refl
