use Rattle.std.proofs.Common.{◌≡◌, ℕ, ◌+◌, ◌-◌, ◌/◌, ◌≤◌, sym, arith}
use Rattle.std.proofs.Math.Nat.{div-eq_of_lt-le}
use Rattle.std.proofs.lemmas.Grind.{div_ceil_times}
use Rattle.std.specs.Int.{div_ceil}
use Rattle.levels.proofs.level.Level.wait.Goals as goal

rounded_up : (s r : ℕ) → 1 ≤ r → div_ceil s r ≡ (s + (r - 1)) / r
rounded_up s r some = let bounds = div_ceil_times s r some in sym (div-eq_of_lt-le r (omega arith) (omega arith))

pub returns : goal.returns
returns c = grind (arith, rounded_up)
