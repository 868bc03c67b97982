-- Sums of deficits over the flows of a port. Assumes nothing.
use Rattle.std.proofs.Common.{◌≡◌, ℕ, zero, suc, ◌+◌, ◌-◌, ◌*◌, ◌<◌, ◌≤◌, Bool, true, false, cond, ◌&&◌, eqb, ltb, List, [], ◌∷◌, map, length, get_or, set, refl, inl, inr, mul-le-mul_left, mul-zero, mul-one, mul-add, arith}
use native.Mathlib.Nat.{sub_self}
use Rattle.std.specs.List.{AllByRecursion as Each}
use Rattle.std.proofs.lemmas.Bool.{cases_Bool, cases_order, lt-ltb, le-ltb, le-leb, lt-leb, eq-eqb, ne_eqb}
use Rattle.flows.specs.Flow.{FlowModel}
use Rattle.promises.specs.Promises.{den, over, before, bursts, long}
use Rattle.memory.specs.Plans.{Rated}
use Rattle.memory.proofs.NeedLaws.{rates_in}
use Rattle.port.specs.Port.{Level, full, deficit_at, flow_at}

-- the deficits at tick t of the flows over port p of classes below n
unfoldable pub owed : ℕ → ℕ → ℕ → List FlowModel → List Level → ℕ
owed p n t [] ls = 0
owed p n t (f ∷ fs) [] = 0
owed p n t (f ∷ fs) (l ∷ ls) = cond (over p f && ltb f.class n) (deficit_at f l t) 0 + owed p n t fs ls

-- the bursts of class c over port p
unfoldable pub bursts_in : ℕ → ℕ → List FlowModel → ℕ
bursts_in p c [] = 0
bursts_in p c (f ∷ fs) = cond (over p f && eqb f.class c) f.burst 0 + bursts_in p c fs

-- each flow has a level, and no deficit passes its burst
abbrev pub Capped : List FlowModel → List Level → Type 0
Capped [] [] = Unit {0}
Capped [] (l ∷ ls) = ⊥
Capped (f ∷ fs) [] = ⊥
Capped (f ∷ fs) (l ∷ ls) = (l.deficit ≤ den * f.burst) × Capped fs ls

pub capped_empty : (fs : List FlowModel) → Capped fs (map (λ _. full) fs)
capped_empty [] = tt
capped_empty (f ∷ fs) = (omega arith, capped_empty fs)

pub capped_set : (k : ℕ) (l : Level) (fs : List FlowModel) (ls : List Level) → Capped fs ls → k < length fs →
    l.deficit ≤ den * (flow_at fs k).burst → Capped fs (set ls k l)
capped_set k l [] ls capped known fits = absurd (omega arith)
capped_set k l (f ∷ fs) [] capped known fits = absurd capped
capped_set zero l (f ∷ fs) (m ∷ ls) capped known fits = (fits, capped.1)
capped_set (suc k) l (f ∷ fs) (m ∷ ls) capped known fits = (capped.0, capped_set k l fs ls capped.1 (omega arith) fits)

-- in a tick a deficit falls by the rate at most
falls : (r t u : ℕ) → r * (t + 1 - u) ≤ r * (t - u) + r
falls r t u =
    let h : t + 1 - u ≤ (t - u) + 1 = omega arith in
    omega (arith, mul-le-mul_left r h, mul-add r (t - u) 1, mul-one r)

pub owed_tick : (p n t : ℕ) (fs : List FlowModel) (ls : List Level) → owed p n t fs ls ≤ owed p n (t + 1) fs ls + before p n fs
unfolding owed before
owed_tick p n t [] ls = omega arith
owed_tick p n t (f ∷ fs) [] = omega arith
owed_tick p n t (f ∷ fs) (l ∷ ls) = by (over p f && ltb f.class n) (owed_tick p n t fs ls)
  where
    by : (b : Bool) → owed p n t fs ls ≤ owed p n (t + 1) fs ls + before p n fs →
        cond b (deficit_at f l t) 0 + owed p n t fs ls ≤ cond b (deficit_at f l (t + 1)) 0 + owed p n (t + 1) fs ls + (cond b f.rate 0 + before p n fs)
    by true more = omega (arith, falls f.rate t l.last)
    by false more = omega arith

-- a pass adds as much to what is owed
pub owed_pass : (p n t x k : ℕ) (fs : List FlowModel) (ls : List Level) → Capped fs ls → k < length fs →
    over p (flow_at fs k) ≡ true → (flow_at fs k).class < n →
    owed p n t fs (set ls k (record { deficit = deficit_at (flow_at fs k) (get_or ls k full) t + x; last = t })) ≡ owed p n t fs ls + x
unfolding owed
owed_pass p n t x k [] ls capped known on below = absurd (omega arith)
owed_pass p n t x k (f ∷ fs) [] capped known on below = absurd capped
owed_pass p n t x zero (f ∷ fs) (l ∷ ls) capped known on below =
    let none : f.rate * (t - t) ≡ 0 = rw sub_self (mul-zero f.rate) in
    rw (on, lt-ltb f.class n below) (omega arith)
owed_pass p n t x (suc k) (f ∷ fs) (l ∷ ls) capped known on below =
    let more = owed_pass p n t x k fs ls capped.1 (omega arith) on below in
    rw more (omega arith)

-- unless its class is not counted
pub owed_other : (p n t k : ℕ) (l : Level) (fs : List FlowModel) (ls : List Level) → n ≤ (flow_at fs k).class →
    owed p n t fs (set ls k l) ≡ owed p n t fs ls
unfolding owed
owed_other p n t k l [] ls above = refl
owed_other p n t k l (f ∷ fs) [] above = refl
owed_other p n t zero l (f ∷ fs) (m ∷ ls) above =
    rw (le-ltb f.class n above) (elim (cases_Bool (over p f)) [ inl on ↦ rw on refl | inr off ↦ rw off refl ])
owed_other p n t (suc k) l (f ∷ fs) (m ∷ ls) above = rw (owed_other p n t k l fs ls above) refl

-- what class c owes is at most its bursts
pub owed_class : (p c t : ℕ) (fs : List FlowModel) (ls : List Level) → Capped fs ls →
    owed p (suc c) t fs ls ≤ owed p c t fs ls + den * bursts_in p c fs
unfolding owed bursts_in
owed_class p c t [] ls capped = omega arith
owed_class p c t (f ∷ fs) [] capped = absurd capped
owed_class p c t (f ∷ fs) (l ∷ ls) capped =
    let more = owed_class p c t fs ls capped.1 in
    let here = capped.0 in
    elim (cases_Bool (over p f)) [
      | inl on ↦ rw on (elim (cases_order f.class c) [
        | inl same ↦ rw (lt-ltb f.class (suc c) (omega arith), le-ltb f.class c (omega arith), eq-eqb f.class c same) (omega arith)
        | inr (inl below) ↦ rw (lt-ltb f.class (suc c) (omega arith), lt-ltb f.class c below, ne_eqb f.class c (λ e. omega arith)) (omega arith)
        | inr (inr above) ↦ rw (le-ltb f.class (suc c) above, le-ltb f.class c (omega arith), ne_eqb f.class c (λ e. omega arith)) (omega arith)
      ])
      | inr off ↦ rw off (omega arith)
    ]

-- what classes up to c owe is at most their bursts
pub owed_bursts : (p c t : ℕ) (fs : List FlowModel) (ls : List Level) → Capped fs ls →
    owed p c t fs ls + den * bursts_in p c fs ≤ den * bursts p c fs
unfolding owed bursts_in bursts
owed_bursts p c t [] ls capped = omega arith
owed_bursts p c t (f ∷ fs) [] capped = absurd capped
owed_bursts p c t (f ∷ fs) (l ∷ ls) capped =
    let more = owed_bursts p c t fs ls capped.1 in
    let here = capped.0 in
    elim (cases_Bool (over p f)) [
      | inl on ↦ rw on (elim (cases_order f.class c) [
        | inl same ↦ rw (le-leb f.class c (omega arith), le-ltb f.class c (omega arith), eq-eqb f.class c same) (omega arith)
        | inr (inl below) ↦ rw (le-leb f.class c (omega arith), lt-ltb f.class c below, ne_eqb f.class c (λ e. omega arith)) (omega arith)
        | inr (inr above) ↦ rw (lt-leb f.class c above, le-ltb f.class c (omega arith), ne_eqb f.class c (λ e. omega arith)) (omega arith)
      ])
      | inr off ↦ rw off (omega arith)
    ]

-- a packet of a higher class is no longer than the longest of these
pub long_holds : (p c k : ℕ) (fs : List FlowModel) → k < length fs → over p (flow_at fs k) ≡ true → c < (flow_at fs k).class →
    (flow_at fs k).longest ≤ long p c fs
unfolding long
long_holds p c k [] known on above = absurd (omega arith)
long_holds p c zero (f ∷ fs) known on above = rw (on, lt-ltb c f.class above) (omega arith)
long_holds p c (suc k) (f ∷ fs) known on above =
    let more = long_holds p c k fs (omega arith) on above in
    omega arith

-- a flow's class has a rate
pub rates_hold : (p k : ℕ) (fs : List FlowModel) → Each Rated fs → k < length fs → over p (flow_at fs k) ≡ true →
    1 ≤ rates_in p (flow_at fs k).class fs
unfolding rates_in
rates_hold p k [] rated known on = absurd (omega arith)
rates_hold p zero (f ∷ fs) rated known on = rw (on, eq-eqb f.class f.class refl) (omega (arith, rated.0))
rates_hold p (suc k) (f ∷ fs) rated known on =
    let more = rates_hold p k fs rated.1 (omega arith) on in
    omega arith
