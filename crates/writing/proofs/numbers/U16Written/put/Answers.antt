use Rattle.std.proofs.Common.{◌≡◌, ◌/◌, ◌%◌, arith, rules}
use Rattle.record_bytes.proofs.Digits.{bytes_of_two}
use Rattle.writing.proofs.numbers.U16Written.put.Goals as goal

pub returns-clause-appended : goal.returns-clause-appended
returns-clause-appended c =
    let n = c.args.self.now in
    let high : n / 256 % 256 ≡ n / 256 = omega arith in
    rw (bytes_of_two n, ← high) (search rules)
