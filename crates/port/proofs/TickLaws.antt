-- What every step of a port keeps, and that a tick does. Assumes nothing.
use Rattle.std.proofs.Common.{◌≡◌, ℕ, zero, suc, ◌+◌, ◌-◌, ◌*◌, ◌<◌, ◌≤◌, Bool, true, false, cond, eqb, List, [], ◌∷◌, map, length, replicate, Some, None, Option, sym, refl, subst, mul-one, mul-add, arith}
use Rattle.std.specs.List.{AllByRecursion as Each}
use Rattle.std.proofs.lemmas.Bool.{eqb-true, eqb-false}
use Rattle.flows.specs.Flow.{FlowModel}
use Rattle.promises.specs.Promises.{den, over, before, long}
use Rattle.memory.proofs.NeedLaws.{rates_among}
use Rattle.port.specs.Port.{Packet, Sending, Gone, Level, flow_at, full, queue_of, waiting_below, still, left}
use Rattle.port.specs.Laws.{Within, Punctual}
use Rattle.port.proofs.OwedLaws.{owed, bursts_in, Capped, capped_empty, owed_tick}
use Rattle.port.proofs.QueueLaws.{Line, waiting_none, line-moves}

-- ticks still to be sent
abbrev pub left_at : ℕ → Option Sending → ℕ
left_at t None = 0
left_at t (Some x) = x.until - t

-- a packet that waits in the queue of class c
pub record Proper (p : ℕ) (fs : List FlowModel) (c : ℕ) (w : Packet) : Type 0 where
  pub known : w.flow < length fs
  pub crosses : over p (flow_at fs w.flow) ≡ true
  pub class : (flow_at fs w.flow).class ≡ c
  pub some : 1 ≤ w.len
  pub short : w.len ≤ (flow_at fs w.flow).longest

-- what is being sent has not left, and will leave within the promise
abbrev pub InTime : ℕ → List FlowModel → ℕ → Option Sending → Type 0
InTime p fs now None = Unit {0}
InTime p fs now (Some x) = (now < x.until) × Punctual p fs (record { packet = x.packet; at = x.until })

-- what a packet of class c may have to wait for
abbrev pub bound : ℕ → ℕ → ℕ → List FlowModel → List Level → ℕ
bound p c t fs ls = den * (long p c fs + bursts_in p c fs) + owed p c t fs ls

-- the packets q of class c, behind the lower classes of qs and what is being sent
abbrev pub LineOf : ℕ → List FlowModel → ℕ → List (List Packet) → Option Sending → List Level → ℕ → List Packet → Type 0
LineOf p fs now qs o ls c q = Line (den - before p c fs) now (bound p c now fs ls) (waiting_below c qs + left_at now o) q

-- what every step keeps: the sum of all that is to be sent, and the same for each packet that waits
pub record Kept (p : ℕ) (fs : List FlowModel) (now : ℕ) (qs : List (List Packet)) (o : Option Sending) (ls : List Level) (gs : List Gone) : Type 0 where
  pub eight : length qs ≡ 8
  pub proper : (c : ℕ) → Each (Proper p fs c) (queue_of qs c)
  pub capped : Capped fs ls
  pub waits : (c : ℕ) → den * (waiting_below (suc c) qs + left_at now o) ≤ den * long p c fs + owed p (suc c) now fs ls
  pub lines : (c : ℕ) → LineOf p fs now qs o ls c (queue_of qs c)
  pub sends : InTime p fs now o
  pub punctual : Each (Punctual p fs) gs

-- the empty state
pub none_in : (n c : ℕ) → queue_of (replicate n []) c ≡ []
none_in zero c = refl
none_in (suc n) zero = refl
none_in (suc n) (suc c) = none_in n c

pub empty-kept : (p : ℕ) (fs : List FlowModel) → Kept p fs 0 (replicate 8 []) None (map (λ _. full) fs) []
empty-kept p fs =
    record {
      eight = refl;
      proper = λ c. subst (λ q. Each (Proper p fs c) q) (sym (none_in 8 c)) tt;
      capped = capped_empty fs;
      waits = λ c. let none = waiting_none (suc c) (replicate 8 []) (λ d h. none_in 8 d) in omega arith;
      lines = λ c. subst (λ q. LineOf p fs 0 (replicate 8 []) None (map (λ _. full) fs) c q) (sym (none_in 8 c)) tt;
      sends = tt;
      punctual = tt;
    }

-- no class goes before another with more than all of the port
before-within : (p n : ℕ) (fs : List FlowModel) → Within p fs → before p n fs ≤ den
before-within p n fs within = omega (arith, rates_among p n fs within.classed, within.room)

-- a line after a step
pub moves : (p : ℕ) (fs : List FlowModel) (now now' : ℕ) (qs qs' : List (List Packet)) (o o' : Option Sending) (ls ls' : List Level) (c : ℕ) (q : List Packet) →
    den * (waiting_below c qs' + left_at now' o') + (den - before p c fs) * now' + bound p c now fs ls
    ≤ den * (waiting_below c qs + left_at now o) + (den - before p c fs) * now + bound p c now' fs ls' →
    LineOf p fs now qs o ls c q → LineOf p fs now' qs' o' ls' c q
moves p fs now now' qs qs' o o' ls ls' c q most line =
    line-moves (den - before p c fs) now now' (bound p c now fs ls) (bound p c now' fs ls') (waiting_below c qs + left_at now o)
    (waiting_below c qs' + left_at now' o') q most line

-- a tick takes as much from what is ahead as it adds to the wait, less what lower classes may bring
tick-moves : (free rate now off off' x y : ℕ) → free + rate ≤ den → off' + 1 ≡ off → x ≤ y + rate →
    den * off' + free * (now + 1) + x ≤ den * off + free * now + y
tick-moves free rate now off off' x y whole less fall = omega (arith, mul-add free now 1, mul-one free)

module _ (p : ℕ) (fs : List FlowModel) (within : Within p fs) (now : ℕ) (qs : List (List Packet)) (ls : List Level) (gs : List Gone) where
  -- a tick in which the port sends
  sent : (o o' : Option Sending) (gs' : List Gone) → Kept p fs now qs o ls gs → left_at (now + 1) o' + 1 ≡ left_at now o →
      InTime p fs (now + 1) o' → Each (Punctual p fs) gs' → Kept p fs (now + 1) qs o' ls gs'
  sent o o' gs' kept less sends punctual =
      record {
        eight = kept.eight;
        proper = kept.proper;
        capped = kept.capped;
        waits = λ c. omega (arith, kept.waits c, owed_tick p (suc c) now fs ls, before-within p (suc c) fs within);
        lines = λ c.
            let fall = owed_tick p c now fs ls in
            let some = before-within p c fs within in
            moves p fs now (now + 1) qs qs o o' ls ls c (queue_of qs c)
            (tick-moves (den - before p c fs) (before p c fs) now _ _ _ _ (omega arith) (omega arith) (omega arith)) (kept.lines c);
        sends = sends;
        punctual = punctual;
      }

  -- a tick
  pub tick-kept : (o : Option Sending) → (o ≡ None → (c : ℕ) → queue_of qs c ≡ []) → Kept p fs now qs o ls gs →
      Kept p fs (now + 1) qs (still (now + 1) o) ls (left (now + 1) o gs)
  tick-kept None may kept =
      record {
        eight = kept.eight;
        proper = kept.proper;
        capped = kept.capped;
        waits = λ c. let none = waiting_none (suc c) qs (λ d h. may refl d) in omega arith;
        lines = λ c. subst (λ q. LineOf p fs (now + 1) qs None ls c q) (sym (may refl c)) tt;
        sends = tt;
        punctual = kept.punctual;
      }
  tick-kept (Some x) may kept = by (eqb x.until (now + 1)) refl
    where
      by : (b : Bool) → eqb x.until (now + 1) ≡ b →
          Kept p fs (now + 1) qs (cond b None (Some x)) ls (cond b (record { packet = x.packet; at = now + 1 } ∷ gs) gs)
      by true is =
          let last = eqb-true x.until (now + 1) is in
          let due = kept.sends.1 in
          sent (Some x) None (record { packet = x.packet; at = now + 1 } ∷ gs) kept (omega arith) tt (omega arith, kept.punctual)
      by false is =
          let more = eqb-false x.until (now + 1) is in
          let some = kept.sends.0 in
          let later : now + 1 < x.until = omega arith in
          sent (Some x) (Some x) gs kept (omega arith) (later, kept.sends.1) kept.punctual
