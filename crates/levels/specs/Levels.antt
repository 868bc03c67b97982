-- Levels: what a flow may still send into a queue, in millionths of a tick. Assumes nothing.
use Rattle.std.specs.Prelude.{ℕ, ◌+◌, ◌-◌, ◌*◌, ◌/◌, ◌^◌, min, Bool, cond, ◌&&◌, Some, None, Option, nat_le, nat_lt}

-- all of a port, in millionths
abbrev pub den : ℕ
den = 1000000

-- the level at the last tick
pub record LevelModel : Type 0 where
  pub burst : ℕ
  pub rate : ℕ
  pub level : ℕ
  pub last : ℕ

-- all of the burst, at tick 0
abbrev pub full_level : ℕ → ℕ → LevelModel
full_level burst rate = record { burst = burst; rate = rate; level = den * burst; last = 0 }

-- a rate is some of a port, and at most all of it
abbrev pub is_rate : ℕ → Bool
is_rate rate = nat_le 1 rate && nat_le rate den

abbrev pub full_of : ℕ → ℕ → Option LevelModel
full_of burst rate = cond (is_rate rate) (Some (full_level burst rate)) None

-- so many ticks later: the rate for each of them, and never more than the burst
abbrev pub refilled : LevelModel → ℕ → ℕ
refilled l ticks = min (den * l.burst) (l.level + l.rate * ticks)

abbrev pub level_at : LevelModel → ℕ → ℕ
level_at l t = refilled l (t - l.last)

-- what it is at a tick; before the last one it stays as it is
abbrev pub at_tick : LevelModel → ℕ → LevelModel
at_tick l t = cond (nat_lt t l.last) l (record { burst = l.burst; rate = l.rate; level = level_at l t; last = t })

-- a packet of this length may pass at the last tick, or at tick t
abbrev pub passes_now : LevelModel → ℕ → Bool
passes_now l len = nat_le (den * len) l.level

abbrev pub may_pass : LevelModel → ℕ → ℕ → Bool
may_pass l t len = passes_now (at_tick l t) len

-- a packet that passes takes its length; where it may not pass, the level stays as it is
abbrev pub spent : LevelModel → ℕ → LevelModel
spent l len =
    cond (passes_now l len) (record { burst = l.burst; rate = l.rate; level = l.level - den * len; last = l.last }) l

-- what a packet of this length lacks, and the ticks that bring it, rounded up
abbrev pub shortfall : LevelModel → ℕ → ℕ
shortfall l len = den * len - l.level

abbrev pub wait : LevelModel → ℕ → ℕ
wait l len = (shortfall l len + (l.rate - 1)) / l.rate

-- ticks are of 64 bits
abbrev pub tick_of : ℕ → Option ℕ
tick_of t = cond (nat_lt t (2 ^ 64)) (Some t) None

-- the first tick from the last one on at which a packet of this length may pass; none where it is longer than the burst
abbrev pub first_pass : LevelModel → ℕ → Option ℕ
first_pass l len = cond (nat_le len l.burst) (tick_of (l.last + wait l len)) None
