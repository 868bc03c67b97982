-- A flow's level at the next port against what its packets carry there from the first. Assumes nothing.
use Rattle.std.proofs.Common.{◌≡◌, ℕ, ◌+◌, ◌-◌, ◌*◌, ◌≤◌, List, map, get_or, mul-le-mul_left, mul-add, arith}
use Rattle.std.proofs.Math.ListN.{get_or-map}
use Rattle.flows.specs.Flow.{FlowModel}
use Rattle.port.specs.Port.{Level, no_flow, full, deficit_at}

-- at the start every level is full
pub full_at : (fs : List FlowModel) (k : ℕ) → get_or (map (λ _. full) fs) k full ≡ full
full_at fs k = get_or-map (λ _. full) fs k no_flow

-- A level q is behind a level l, so many ticks late: that much later it lacks no more.
pub record Behind (f : FlowModel) (late : ℕ) (q l : Level) : Type 0 where
  pub soon : q.last ≤ l.last + late
  pub less : q.deficit ≤ l.deficit + f.rate * (l.last + late - q.last)

pub behind_later : (f : FlowModel) (late later : ℕ) (q l : Level) → late ≤ later → Behind f late q l → Behind f later q l
behind_later f late later q l more behind =
    let h : l.last + late - q.last ≤ l.last + later - q.last = omega arith in
    record { soon = omega (arith, behind.soon); less = omega (arith, behind.less, mul-le-mul_left f.rate h) }

-- so at any tick it lacks at most what the other lacks at tick b, and what comes back from now to that much after b
pub behind-then : (f : FlowModel) (late b now : ℕ) (q l : Level) → l.last ≤ b → Behind f late q l →
    deficit_at f q now ≤ deficit_at f l b + f.rate * (b + late - now)
behind-then f late b now q l since behind =
    let soon = behind.soon in
    let h : (l.last + late - q.last) + (b - l.last) ≤ (now - q.last) + (b + late - now) = omega arith in
    omega (
      arith,
      behind.less,
      mul-le-mul_left f.rate h,
      mul-add f.rate (l.last + late - q.last) (b - l.last),
      mul-add f.rate (now - q.last) (b + late - now),
    )
