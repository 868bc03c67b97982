-- The first tick at which a packet may pass. Assumes nothing.
use Rattle.std.proofs.Common.{◌≡◌, ℕ, ◌+◌, ◌-◌, ◌*◌, ◌/◌, ◌^◌, ◌<◌, ◌≤◌, Bool, true, false, cond, ltb, leb, ◌⊎◌, Some, None, Option, refl, inl, inr, mul_comm, div-mul-le_self, arith}
use native.Mathlib.Nat.{lt-div-mul-add}
use Rattle.std.proofs.lemmas.Nat.{mul-le}
use Rattle.std.proofs.lemmas.Option.{cond_some}
use Rattle.std.proofs.lemmas.Bool.{leb-true, leb-false, ltb-false, le-leb, lt-leb, le-ltb}
use Rattle.levels.specs.Levels.{den, LevelModel, level_at, may_pass, tick_of, shortfall, wait}
use Rattle.levels.specs.Laws.{Sound, FirstIsFirst, NoneIsNever}

-- from its last tick on, a level may let a packet pass exactly if what it is refilled to covers it
pub may : (l : LevelModel) (t len : ℕ) → l.last ≤ t → den * len ≤ level_at l t → may_pass l t len ≡ true
may l t len later enough = rw (le-ltb t l.last later) (le-leb (den * len) (level_at l t) enough)

pub may_not : (l : LevelModel) (t len : ℕ) → l.last ≤ t → level_at l t < den * len → may_pass l t len ≡ false
may_not l t len later short = rw (le-ltb t l.last later) (lt-leb (den * len) (level_at l t) short)

pub may-only : (l : LevelModel) (t len : ℕ) → l.last ≤ t → may_pass l t len ≡ true → den * len ≤ level_at l t
may-only l t len later passes =
    leb-true (den * len) (level_at l t) (rw (le-ltb t l.last later) at passes)

-- a quotient rounded up: fewer ticks bring less, and as many bring enough
fewer : (short r d : ℕ) → 1 ≤ r → d < (short + (r - 1)) / r → r * d < short
fewer short r d some less =
    let whole = div-mul-le_self (short + (r - 1)) r in
    let part = mul-le (d + 1) r ((short + (r - 1)) / r) r (omega arith) (omega arith) in
    let more : (d + 1) * r ≡ d * r + r = omega arith in
    omega (arith, mul_comm d r)

enough : (short r d : ℕ) → 1 ≤ r → (short + (r - 1)) / r ≤ d → short ≤ r * d
enough short r d some more =
    let z : 0 < r = omega arith in
    let whole = lt-div-mul-add {a = short + (r - 1)} {b = r} z in
    let part = mul-le ((short + (r - 1)) / r) r d r more (omega arith) in
    omega (arith, mul_comm d r)

some-only : {X : Type 0} (b : Bool) (o : Option X) (x : X) → cond b o None ≡ Some x → (b ≡ true) × (o ≡ Some x)
some-only true o x e = (refl, e)
some-only false o x e = cc

none_only : {X : Type 0} (b : Bool) (o : Option X) → cond b o None ≡ None → (b ≡ false) ⊎ (o ≡ None)
none_only true o e = inr e
none_only false o e = inl refl

tick-only : (n t : ℕ) → tick_of n ≡ Some t → n ≡ t
tick-only n t e = (cond_some (ltb n (2 ^ 64)) n t e).1

past-only : (n : ℕ) → tick_of n ≡ None → 2 ^ 64 ≤ n
past-only n e =
    elim (none_only (ltb n (2 ^ 64)) (Some n) e) [
      | inl past ↦ ltb-false n (2 ^ 64) past
      | inr never ↦ cc
    ]

-- before the wait is over it may not pass
waits : (l : LevelModel) (len s : ℕ) → Sound l → l.last ≤ s → s < l.last + wait l len → may_pass l s len ≡ false
waits l len s sound later soon =
    let less = fewer (shortfall l len) l.rate (s - l.last) sound.rate (omega arith) in
    may_not l s len later (omega arith)

pub first_is_first : FirstIsFirst
first_is_first l len t sound is =
    let fits = some-only (leb len l.burst) (tick_of (l.last + wait l len)) t is in
    let short = leb-true len l.burst fits.0 in
    let tick = tick-only (l.last + wait l len) t fits.1 in
    record {
      from = omega arith;
      not_before = λ s later soon. waits l len s sound later (omega arith);
      then = λ s late.
          let more = enough (shortfall l len) l.rate (s - l.last) sound.rate (omega arith) in
          may l s len (omega arith) (omega arith);
    }

pub none_is_never : NoneIsNever
none_is_never l len s sound is later tick =
    elim (none_only (leb len l.burst) (tick_of (l.last + wait l len)) is) [
      | inl long ↦ let above = leb-false len l.burst long in may_not l s len later (omega arith)
      | inr past ↦ let far = past-only (l.last + wait l len) past in waits l len s sound later (omega arith)
    ]
