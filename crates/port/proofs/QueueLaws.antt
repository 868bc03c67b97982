-- Sums of what waits in queues. Assumes nothing.
use Rattle.std.proofs.Common.{◌≡◌, ℕ, zero, suc, ◌+◌, ◌*◌, ◌<◌, ◌≤◌, ◌≢◌, List, [], ◌∷◌, ◌++◌, length, set, refl, inl, inr, arith, get_or-set_other, get_or-set_same}
use Rattle.std.proofs.lemmas.Bool.{cases_lt}
use Rattle.promises.specs.Promises.{den}
use Rattle.port.specs.Port.{Packet, queue_of, ticks_of, waiting_below}

pub ticks_push : (ws : List Packet) (w : Packet) → ticks_of (ws ++ w ∷ []) ≡ ticks_of ws + w.len
unfolding ticks_of
ticks_push [] w = omega arith
ticks_push (v ∷ ws) w = rw (ticks_push ws w) (omega arith)

-- where no queue below n has a packet, nothing waits there
pub waiting_none : (n : ℕ) (qs : List (List Packet)) → ((d : ℕ) → d < n → queue_of qs d ≡ []) → waiting_below n qs ≡ 0
unfolding waiting_below ticks_of
waiting_none zero qs none = refl
waiting_none (suc n) qs none =
    rw (waiting_none n qs (λ d h. none d (omega arith)), none n (omega arith)) refl

-- what waits below n does not change with a queue above
pub waiting_other : (n c : ℕ) (q : List Packet) (qs : List (List Packet)) → n ≤ c → waiting_below n (set qs c q) ≡ waiting_below n qs
unfolding waiting_below
waiting_other zero c q qs above = refl
waiting_other (suc n) c q qs above =
    let other : n ≢ c = (λ e. omega arith) in
    rw (waiting_other n c q qs (omega arith), get_or-set_other qs c n q [] other) refl

-- and changes with a queue below as that queue does
pub waiting-set : (n c : ℕ) (q : List Packet) (qs : List (List Packet)) → c < n → c < length qs →
    waiting_below n (set qs c q) + ticks_of (queue_of qs c) ≡ waiting_below n qs + ticks_of q
unfolding waiting_below
waiting-set zero c q qs below known = absurd (omega arith)
waiting-set (suc n) c q qs below known =
    elim (cases_lt c n) [
      | inl under ↦
          let more = waiting-set n c q qs under known in
          let other : n ≢ c = (λ e. omega arith) in
          rw (get_or-set_other qs c n q [] other) (omega arith)
      | inr last ↦
          let same : n ≡ c = omega arith in
          rw (same, waiting_other c c q qs (omega arith), get_or-set_same qs c q [] known) (omega arith)
    ]

-- Each packet of a queue, with off ticks before the first: what has to be sent before its last bit leaves, and the time since
-- its pass, keep within a bound.
abbrev pub Line : ℕ → ℕ → ℕ → ℕ → List Packet → Type 0
Line free now bound off [] = Unit {0}
Line free now bound off (w ∷ ws) =
    (den * (off + w.len) + free * now ≤ bound + free * w.into) × Line free now bound (off + w.len) ws

-- another tick, bound and offset
pub line-moves : (free now now' bound bound' off off' : ℕ) (ws : List Packet) →
    den * off' + free * now' + bound ≤ den * off + free * now + bound' → Line free now bound off ws → Line free now' bound' off' ws
line-moves free now now' bound bound' off off' [] moves line = tt
line-moves free now now' bound bound' off off' (w ∷ ws) moves line =
    let here = line.0 in
    (omega arith, line-moves free now now' bound bound' (off + w.len) (off' + w.len) ws (omega arith) line.1)

-- a packet more at the end
pub line_push : (free now bound off : ℕ) (ws : List Packet) (w : Packet) → Line free now bound off ws →
    den * (off + ticks_of ws + w.len) + free * now ≤ bound + free * w.into → Line free now bound off (ws ++ w ∷ [])
unfolding ticks_of
line_push free now bound off [] w line last = (omega arith, tt)
line_push free now bound off (v ∷ ws) w line last =
    (line.0, line_push free now bound (off + v.len) ws w line.1 (omega arith))
