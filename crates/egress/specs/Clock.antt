-- The clock of a port. Assumes nothing.
use Rattle.std.specs.Prelude.{ℕ, ◌+◌, ◌^◌, cond, Some, None, Option, nat_lt}

-- the next tick, where a packet that is taken in it leaves at a tick of 64 bits
abbrev pub next_of : ℕ → Option ℕ
next_of tick = cond (nat_lt (tick + 1 + 255) (2 ^ 64)) (Some (tick + 1)) None
