-- A take keeps what every step keeps. Assumes nothing.
use Rattle.std.proofs.Common.{◌≡◌, ℕ, zero, suc, ◌+◌, ◌-◌, ◌*◌, ◌/◌, ◌<◌, ◌≤◌, List, [], ◌∷◌, length, set, Some, None, Option, sym, ap, ◌∙◌, subst, inl, inr, mul-le-mul_right, mul_comm, mul-add, arith, length-set, get_or-set_other, get_or-set_same}
use Rattle.std.specs.List.{AllByRecursion as Each}
use Rattle.std.proofs.lemmas.Nat.{le-div}
use Rattle.std.proofs.lemmas.Bool.{cases_lt, cases_order, cases_eq}
use Rattle.flows.specs.Flow.{FlowModel}
use Rattle.promises.specs.Promises.{den, before, bursts, long, promise}
use Rattle.memory.proofs.NeedLaws.{rates_in, rates_among}
use Rattle.port.specs.Port.{Packet, Sending, Gone, Level, flow_at, queue_of, ticks_of, waiting_below}
use Rattle.port.specs.Laws.{Within, HasTime}
use Rattle.port.proofs.OwedLaws.{Capped, owed_bursts, long_holds, rates_hold}
use Rattle.port.proofs.QueueLaws.{Line, waiting_none, waiting_other, waiting-set, line-moves}
use Rattle.port.proofs.TickLaws.{left_at, Proper, bound, LineOf, Kept, moves}

-- what is left of a port serves a wait in time
in_time : (free ahead now into x : ℕ) → 0 < free → free ≤ den → den * ahead + free * now ≤ den * x + free * into →
    now + ahead ≤ into + x * den / free
in_time free ahead now into x some part served =
    elim (cases_lt into (now + ahead)) [
      | inl waited ↦
          let wait : ℕ = now + ahead - into in
          let whole : now + ahead ≡ into + wait = omega arith in
          let split = ap (λ n. free * n) whole in
          let sum = mul-add free now ahead in
          let parts = mul-add free into wait in
          let most = mul-le-mul_right ahead part in
          let turned = mul_comm wait free in
          let enough = le-div wait (x * den) free some (omega arith) in
          omega arith
      | inr soon ↦ omega arith
    ]

-- a queue that has a packet is one of the eight
pub held : (c : ℕ) (w : Packet) (rest : List Packet) (qs : List (List Packet)) → queue_of qs c ≡ w ∷ rest → c < length qs
held c w rest [] first = cc
held zero w rest (q ∷ qs) first = omega arith
held (suc c) w rest (q ∷ qs) first = let more = held c w rest qs first in omega arith

-- a packet of a line will leave within the promise
served : (p : ℕ) (fs : List FlowModel) (now c off : ℕ) (ls : List Level) (w : Packet) → Within p fs → Capped fs ls → Proper p fs c w →
    den * (off + w.len) + (den - before p c fs) * now ≤ bound p c now fs ls + (den - before p c fs) * w.into →
    now + (off + w.len) ≤ w.into + promise p (flow_at fs w.flow).class fs
served p fs now c off ls w within capped proper line =
    let has : 1 ≤ rates_in p c fs =
    subst (λ k. 1 ≤ rates_in p k fs) proper.class (rates_hold p w.flow fs within.rated proper.known proper.crosses) in
    let among = rates_among p c fs within.classed in
    let room = within.room in
    let most = owed_bursts p c now fs ls capped in
    subst (λ k. now + (off + w.len) ≤ w.into + promise p k fs) (sym proper.class)
    (in_time (den - before p c fs) (off + w.len) now w.into (long p c fs + bursts p c fs) (omega arith) (omega arith) (omega arith))

-- so does each of a line
pub line_served : (p : ℕ) (fs : List FlowModel) (now c off : ℕ) (ls : List Level) (ws : List Packet) → Within p fs → Capped fs ls →
    Each (Proper p fs c) ws → Line (den - before p c fs) now (bound p c now fs ls) off ws → Each (HasTime p fs now) ws
line_served p fs now c off ls [] within capped proper line = tt
line_served p fs now c off ls (w ∷ ws) within capped proper line = (
  omega (arith, served p fs now c off ls w within capped proper.0 line.0),
  line_served p fs now c (off + w.len) ls ws within capped proper.1 line.1,
)

module _ (p : ℕ) (fs : List FlowModel) (within : Within p fs) (now : ℕ) (qs : List (List Packet)) (ls : List Level) (gs : List Gone) where
  -- a take
  module _ (c : ℕ) (w : Packet) (rest : List Packet) (first : queue_of qs c ≡ w ∷ rest) (lowest : (d : ℕ) → d < c → queue_of qs d ≡ [])
      (kept : Kept p fs now qs None ls gs) where
    abbrev qs' : List (List Packet)
    qs' = set qs c rest

    abbrev o' : Option Sending
    o' = Some (record { packet = w; until = now + w.len })

    proper : Proper p fs c w × Each (Proper p fs c) rest
    proper = subst (λ q. Each (Proper p fs c) q) first (kept.proper c)

    line : LineOf p fs now qs None ls c (w ∷ rest)
    line = subst (λ q. LineOf p fs now qs None ls c q) first (kept.lines c)

    same : queue_of qs' c ≡ rest
    same = get_or-set_same qs c rest [] (held c w rest qs first)

    -- what waits below a higher class has w less
    less : (n : ℕ) → c < n → waiting_below n qs' + w.len ≡ waiting_below n qs
    unfolding ticks_of
    less n below =
        let counted : ticks_of (queue_of qs c) ≡ w.len + ticks_of rest = ap ticks_of first in
        omega (arith, waiting-set n c rest qs below (held c w rest qs first))

    pub take-kept : Kept p fs now (set qs c rest) (Some (record { packet = w; until = now + w.len })) ls gs
    take-kept =
        record {
          eight = length-set qs c rest ∙ kept.eight;
          proper = λ d. elim (cases_eq d c) [
            | inl is ↦ subst (λ k. Each (Proper p fs k) (queue_of qs' k)) (sym is) (subst (λ q. Each (Proper p fs c) q) (sym same) proper.1)
            | inr other ↦ subst (λ q. Each (Proper p fs d) q) (sym (get_or-set_other qs c d rest [] other)) (kept.proper d)
          ];
          capped = kept.capped;
          waits = λ d. elim (cases_lt c (suc d)) [
            | inl below ↦ omega (arith, kept.waits d, less (suc d) below)
            | inr above ↦
                let most = long_holds p d w.flow fs proper.0.known proper.0.crosses (omega (arith, proper.0.class)) in
                let short = proper.0.short in
                let none = waiting_none (suc d) qs (λ e h. lowest e (omega arith)) in
                let unchanged = waiting_other (suc d) c rest qs above in
                omega arith
          ];
          lines = λ d. elim (cases_order d c) [
            | inl is ↦
                subst (λ k. LineOf p fs now qs' o' ls k (queue_of qs' k)) (sym is)
                (subst (λ q. LineOf p fs now qs' o' ls c q) (sym same)
                (line-moves (den - before p c fs) now now (bound p c now fs ls) (bound p c now fs ls) (waiting_below c qs + 0 + w.len)
                (waiting_below c qs' + left_at now o') rest (omega (arith, waiting_other c c rest qs (omega arith))) line.1))
            | inr (inl under) ↦
                subst (λ q. LineOf p fs now qs' o' ls d q) (sym (get_or-set_other qs c d rest [] (λ e. omega arith) ∙ lowest d under)) tt
            | inr (inr beyond) ↦
                subst (λ q. LineOf p fs now qs' o' ls d q) (sym (get_or-set_other qs c d rest [] (λ e. omega arith)))
                (moves p fs now now qs qs' None o' ls ls d (queue_of qs d) (omega (arith, less d beyond)) (kept.lines d))
          ];
          sends =
              let soon = served p fs now c (waiting_below c qs + 0) ls w within kept.capped proper.0 line.0 in
              (omega (arith, proper.0.some), omega arith);
          punctual = kept.punctual;
        }
