use Rattle.std.proofs.Common.{◌-◌, ◌*◌, arith}
use Rattle.std.proofs.Math.Nat.{div-le_self}
use Rattle.promises.proofs.port.share.Goals as goal

pub returns-clause-small : goal.returns-clause-small
returns-clause-small c = omega (arith, div-le_self (c.args.ticks * 1000000) (1000000 - c.args.before))
