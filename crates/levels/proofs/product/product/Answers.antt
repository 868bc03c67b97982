use Rattle.std.proofs.Common.{◌≡◌, ℕ, ◌+◌, ◌*◌, ◌/◌, ◌%◌, mul_assoc, mul-add, arith}
use Rattle.std.proofs.lemmas.Nat.{mul-le, div-add-mod'}
use Rattle.levels.proofs.product.product.Goals as goal

-- a product with what was split
split : (r t k : ℕ) → r * (t / k) * k + r * (t % k) ≡ r * t
split r t k = grind (arith, mul_assoc, mul-add, div-add-mod')

pub overflow_mul-result : goal.overflow_mul-result
overflow_mul-result c =
    let parts = split c.args.rate c.args.ticks 4294967296 in
    let most = mul-le c.args.rate c.args.ticks 1000000 65535000000 (omega arith) (omega arith) in
    omega arith

pub overflow_add-result : goal.overflow_add-result
overflow_add-result c =
    let parts = split c.args.rate c.args.ticks 4294967296 in
    let most = mul-le c.args.rate c.args.ticks 1000000 65535000000 (omega arith) (omega arith) in
    omega arith

pub returns : goal.returns
returns c =
    let parts = split c.args.rate c.args.ticks 4294967296 in
    omega arith
