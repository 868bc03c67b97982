-- The clock of a wire. Assumes nothing.
use Rattle.std.specs.Prelude.{ℕ, ◌+◌, ◌^◌, cond, Some, None, Option, nat_lt}

-- the tick at which a packet is at the end of a wire, where it is one of 64 bits
abbrev pub arrival_of : ℕ → ℕ → Option ℕ
arrival_of tick wire = cond (nat_lt (tick + wire) (2 ^ 64)) (Some (tick + wire)) None
