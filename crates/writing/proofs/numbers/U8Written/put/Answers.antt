use Rattle.std.proofs.Common.{rules}
use Rattle.record_bytes.proofs.Digits.{bytes_of_one}
use Rattle.writing.proofs.numbers.U8Written.put.Goals as goal

pub returns-clause-appended : goal.returns-clause-appended
returns-clause-appended c = rw (bytes_of_one c.args.self.now) (search rules)
