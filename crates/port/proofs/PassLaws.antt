-- A pass keeps what every step keeps. Assumes nothing.
use Rattle.std.proofs.Common.{◌≡◌, ℕ, suc, ◌+◌, ◌-◌, ◌*◌, ◌<◌, ◌≤◌, true, List, [], ◌∷◌, ◌++◌, length, get_or, set, Option, sym, refl, ap, ◌∙◌, subst, inl, inr, arith, length-set, get_or-set_other, get_or-set_same}
use Rattle.std.specs.List.{AllByRecursion as Each}
use Rattle.std.proofs.ByRecursion.{All-get_or, All-push}
use Rattle.std.proofs.lemmas.Bool.{cases_lt, cases_order, cases_eq}
use Rattle.flows.specs.Flow.{FlowModel}
use Rattle.promises.specs.Promises.{den, over, before, long}
use Rattle.promises.specs.Laws.{Classed}
use Rattle.port.specs.Port.{Packet, Sending, Gone, Level, no_flow, flow_at, full, deficit_at, queue_of, ticks_of, waiting_below}
use Rattle.port.specs.Laws.{Within}
use Rattle.port.proofs.OwedLaws.{owed, Capped, capped_set, owed_pass, owed_other, owed_class}
use Rattle.port.proofs.QueueLaws.{ticks_push, waiting_other, waiting-set, line_push}
use Rattle.port.proofs.TickLaws.{left_at, Proper, bound, LineOf, Kept, moves}

module _ (p : ℕ) (fs : List FlowModel) (within : Within p fs) (now : ℕ) (qs : List (List Packet)) (ls : List Level) (gs : List Gone) where
  -- a pass
  module _ (o : Option Sending) (k len : ℕ) (known : k < length fs) (crosses : over p (flow_at fs k) ≡ true) (some : 1 ≤ len)
      (short : len ≤ (flow_at fs k).longest) (regular : deficit_at (flow_at fs k) (get_or ls k full) now + den * len ≤ den * (flow_at fs k).burst)
      (kept : Kept p fs now qs o ls gs) where
    abbrev class : ℕ
    class = (flow_at fs k).class

    abbrev packet : Packet
    packet = record { flow = k; len = len; into = now }

    abbrev queue : List Packet
    queue = queue_of qs class ++ packet ∷ []

    abbrev qs' : List (List Packet)
    qs' = set qs class queue

    abbrev level : Level
    level = record { deficit = deficit_at (flow_at fs k) (get_or ls k full) now + den * len; last = now }

    abbrev ls' : List Level
    ls' = set ls k level

    one : class < length qs
    one = omega (arith, kept.eight, All-get_or Classed fs k no_flow known within.classed)

    same : queue_of qs' class ≡ queue
    same = get_or-set_same qs class queue [] one

    capped : Capped fs ls'
    capped = capped_set k level fs ls kept.capped known regular

    -- what waits below a higher class, and what is owed there, has this packet more
    more : (n : ℕ) → class < n → waiting_below n qs' ≡ waiting_below n qs + len
    more n below = omega (arith, waiting-set n class queue qs below one, ticks_push (queue_of qs class) packet)

    owes : (n : ℕ) → class < n → owed p n now fs ls' ≡ owed p n now fs ls + den * len
    owes n below = owed_pass p n now (den * len) k fs ls kept.capped known crosses below

    -- and is as it was below the others
    waits_as_was : (n : ℕ) → n ≤ class → waiting_below n qs' ≡ waiting_below n qs
    waits_as_was n above = waiting_other n class queue qs above

    owes_as_was : (n : ℕ) → n ≤ class → owed p n now fs ls' ≡ owed p n now fs ls
    owes_as_was n above = owed_other p n now k level fs ls above

    waits : (c : ℕ) → den * (waiting_below (suc c) qs' + left_at now o) ≤ den * long p c fs + owed p (suc c) now fs ls'
    waits c =
        elim (cases_lt class (suc c)) [
          | inl below ↦ omega (arith, kept.waits c, more (suc c) below, owes (suc c) below)
          | inr above ↦ omega (arith, kept.waits c, waits_as_was (suc c) above, owes_as_was (suc c) above)
        ]

    -- the packet itself
    last : den * (waiting_below class qs' + left_at now o + ticks_of (queue_of qs class) + len) ≤ bound p class now fs ls'
    unfolding waiting_below
    last =
        let whole = waits class in
        let end = ap ticks_of same in
        let push = ticks_push (queue_of qs class) packet in
        let most = owed_class p class now fs ls' capped in
        omega arith

    pub pass_kept : Kept p fs now (set qs (flow_at fs k).class (queue_of qs (flow_at fs k).class ++ record { flow = k; len = len; into = now } ∷ [])) o
        (set ls k (record { deficit = deficit_at (flow_at fs k) (get_or ls k full) now + den * len; last = now })) gs
    pass_kept =
        record {
          eight = length-set qs class queue ∙ kept.eight;
          proper = λ d. elim (cases_eq d class) [
            | inl is ↦
                subst (λ j. Each (Proper p fs j) (queue_of qs' j)) (sym is)
                (subst (λ q. Each (Proper p fs class) q) (sym same)
                (All-push (Proper p fs class) (queue_of qs class) packet (kept.proper class)
                (record { known = known; crosses = crosses; class = refl; some = some; short = short })))
            | inr other ↦ subst (λ q. Each (Proper p fs d) q) (sym (get_or-set_other qs class d queue [] other)) (kept.proper d)
          ];
          capped = capped;
          waits = waits;
          lines = λ d. elim (cases_order d class) [
            | inl is ↦
                subst (λ j. LineOf p fs now qs' o ls' j (queue_of qs' j)) (sym is)
                (subst (λ q. LineOf p fs now qs' o ls' class q) (sym same)
                (line_push (den - before p class fs) now (bound p class now fs ls') (waiting_below class qs' + left_at now o) (queue_of qs class) packet
                (moves p fs now now qs qs' o o ls ls' class (queue_of qs class)
                (omega (arith, waits_as_was class (omega arith), owes_as_was class (omega arith))) (kept.lines class))
                (omega (arith, last))))
            | inr (inl under) ↦
                subst (λ q. LineOf p fs now qs' o ls' d q) (sym (get_or-set_other qs class d queue [] (λ e. omega arith)))
                (moves p fs now now qs qs' o o ls ls' d (queue_of qs d)
                (omega (arith, waits_as_was d (omega arith), owes_as_was d (omega arith))) (kept.lines d))
            | inr (inr beyond) ↦
                subst (λ q. LineOf p fs now qs' o ls' d q) (sym (get_or-set_other qs class d queue [] (λ e. omega arith)))
                (moves p fs now now qs qs' o o ls ls' d (queue_of qs d) (omega (arith, more d beyond, owes d beyond)) (kept.lines d))
          ];
          sends = kept.sends;
          punctual = kept.punctual;
        }
