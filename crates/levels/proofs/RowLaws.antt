-- Rows, and what the burst lacks after them. Assumes nothing.
use Rattle.std.proofs.Common.{◌≡◌, ℕ, ◌+◌, ◌-◌, ◌*◌, ◌≤◌, List, [], ◌∷◌, ◌++◌, refl, ap, ◌∙◌, mul-zero, mul-add, arith}
use native.Mathlib.Nat.{sub_self}
use Rattle.levels.specs.Levels.{den}
use Rattle.levels.specs.Regular.{Pass, NotBefore, InOrder, ticks_of, oldest, Regular}

-- the tick of the newest pass, or 0
abbrev pub last_tick : List Pass → ℕ
last_tick [] = 0
last_tick (p ∷ older) = p.at

-- what the burst lacks right after the newest pass of a history
abbrev pub lacks : ℕ → List Pass → ℕ
lacks rate [] = 0
lacks rate (p ∷ older) = lacks rate older - rate * (p.at - last_tick older) + den * p.len

-- and what it lacks at tick t
abbrev pub deficit : ℕ → List Pass → ℕ → ℕ
deficit rate history t = lacks rate history - rate * (t - last_tick history)

-- each row from the newest pass on, with w ticks of sending more at tick s, stays within x and what the rate gives up to s
abbrev pub Fronts : ℕ → ℕ → ℕ → ℕ → List Pass → Type 0
Fronts rate w x s history =
    (p : Pass) (ps older : List Pass) → p ∷ (ps ++ older) ≡ history → den * (w + ticks_of (p ∷ ps)) ≤ x + rate * (s - (oldest p ps).at)

oldest-before : (history : List Pass) (t : ℕ) → NotBefore history t → InOrder history → (p : Pass) (ps older : List Pass) →
    p ∷ (ps ++ older) ≡ history → (oldest p ps).at ≤ t
oldest-before [] t late order p ps older e = cc
oldest-before (q ∷ history) t late order p [] older e =
    let same : p ≡ q = cc in
    let tick = ap (λ (x : Pass). x.at) same in
    omega arith
oldest-before (q ∷ history) t late order p (r ∷ ps) older e =
    let rest : r ∷ (ps ++ older) ≡ history = cc in
    let before = oldest-before history q.at order.0 order.1 r ps older rest in
    omega arith

-- from o to s by way of q
ticks_by : (rate o q s : ℕ) → o ≤ q → q ≤ s → rate * (s - o) ≡ rate * (s - q) + rate * (q - o)
ticks_by rate o q s a b =
    let way : s - o ≡ (s - q) + (q - o) = omega arith in
    ap (λ n. rate * n) way ∙ mul-add rate (s - q) (q - o)

-- for any w and x: what is lacked fits exactly if each row does
pub fronts_fit : (rate : ℕ) (history : List Pass) (w x s : ℕ) → NotBefore history s → InOrder history →
    den * w + deficit rate history s ≤ x → Fronts rate w x s history
fronts_fit rate [] w x s late order fits p ps older e = cc
fronts_fit rate (q ∷ history) w x s late order fits p [] older e =
    let same : p ≡ q = cc in
    rw same (omega arith)
fronts_fit rate (q ∷ history) w x s late order fits p (r ∷ ps) older e =
    let same : p ≡ q = cc in
    let rest : r ∷ (ps ++ older) ≡ history = cc in
    let more = fronts_fit rate history (w + q.len) (x + rate * (s - q.at)) q.at order.0 order.1 (omega arith) r ps older rest in
    let before = oldest-before history q.at order.0 order.1 r ps older rest in
    let ticks = ticks_by rate (oldest r ps).at q.at s before late in
    rw same (omega arith)

pub fit_fronts : (rate : ℕ) (history : List Pass) (w x s : ℕ) → NotBefore history s → InOrder history →
    Fronts rate w x s history → den * w ≤ x → den * w + deficit rate history s ≤ x
fit_fronts rate [] w x s late order fronts some = omega arith
fit_fronts rate (q ∷ history) w x s late order fronts some =
    let alone = fronts q [] history refl in
    let more =
    fit_fronts rate history (w + q.len) (x + rate * (s - q.at)) q.at order.0 order.1
    (λ p ps older e.
    let row = fronts q (p ∷ ps) older (ap (λ h. q ∷ h) e) in
    let before = oldest-before history q.at order.0 order.1 p ps older e in
    let ticks = ticks_by rate (oldest p ps).at q.at s before late in
    omega arith)
    (omega arith) in
    omega arith

-- rows of a history with one pass more are those that begin with it, and those of the history
module _ (burst rate : ℕ) where
  pub regular-none : Regular burst rate []
  regular-none [] rest older newest e = cc
  regular-none (n ∷ newer) rest older newest e = cc

  pub regular_older : (p : Pass) (history : List Pass) → Regular burst rate (p ∷ history) → Regular burst rate history
  regular_older p history regular newer rest older newest e = regular (p ∷ newer) rest older newest (ap (λ h. p ∷ h) e)

  -- what is lacked after a regular history is at most the burst
  pub regular_lacks : (p : Pass) (history : List Pass) → InOrder (p ∷ history) → Regular burst rate (p ∷ history) →
      lacks rate (p ∷ history) ≤ den * burst
  regular_lacks p history order regular =
      let fronts : Fronts rate 0 (den * burst) p.at (p ∷ history) =
      λ q ps older e.
      let same : q ≡ p = cc in
      let row = regular [] ps older q e in
      let ticks = ap (λ (x : Pass). rate * (x.at - (oldest q ps).at)) same in
      omega arith in
      let fits = fit_fronts rate (p ∷ history) 0 (den * burst) p.at (omega arith) order fronts (omega arith) in
      let none : rate * (p.at - p.at) ≡ 0 = rw (sub_self, mul-zero) refl in
      omega arith

  pub lacks_regular : (p : Pass) (history : List Pass) → InOrder (p ∷ history) → lacks rate (p ∷ history) ≤ den * burst →
      Regular burst rate history → Regular burst rate (p ∷ history)
  lacks_regular p history order fits regular [] rest older newest e =
      let same : newest ≡ p = cc in
      let row = fronts_fit rate (p ∷ history) 0 (den * burst) p.at (omega arith) order (omega arith) newest rest older e in
      let ticks = ap (λ (x : Pass). rate * (x.at - (oldest newest rest).at)) same in
      omega arith
  lacks_regular p history order fits regular (n ∷ newer) rest older newest e = regular newer rest older newest (cc)
