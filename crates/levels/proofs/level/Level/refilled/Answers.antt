use Rattle.std.proofs.Common.{arith}
use Rattle.std.proofs.lemmas.Nat.{mul-le}
use Rattle.levels.proofs.level.Level.refilled.Goals as goal

pub returns-then-ticks-gt-FILLING-clause-value : goal.returns-then-ticks-gt-FILLING-clause-value
returns-then-ticks-gt-FILLING-clause-value c =
    let some = mul-le 1 c.args.ticks c.args.self.rate c.args.ticks (omega arith) (omega arith) in
    omega arith

pub overflow_add-self : goal.overflow_add-self
overflow_add-self c =
    let most = mul-le c.args.self.rate c.args.ticks 1000000 65535000000 (omega arith) (omega arith) in
    omega arith
