use Rattle.std.proofs.Common.{◌≡◌, ◌/◌, ◌%◌, arith, rules}
use Rattle.record_bytes.proofs.Digits.{bytes_of_four}
use Rattle.writing.proofs.numbers.U32Written.put.Goals as goal

pub returns-clause-appended : goal.returns-clause-appended
returns-clause-appended c =
    let n = c.args.self.now in
    let high : n / 16777216 % 256 ≡ n / 16777216 = omega arith in
    rw (bytes_of_four n, ← high) (search rules)
