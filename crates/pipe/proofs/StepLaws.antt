-- What every step of a pipe keeps. Assumes nothing.
use Rattle.std.proofs.Common.{◌≡◌, ℕ, ◌+◌, ◌-◌, ◌*◌, ◌<◌, ◌≤◌, ◌⊎◌, List, [], ◌∷◌, map, length, get_or, set, refl, ◌∙◌, subst, inl, inr, mul-zero, arith, length-set, get_or-set_other, get_or-set_same}
use lib.ListN.{length-map}
use Rattle.std.proofs.lemmas.Bool.{cases_lt, cases_eq}
use Rattle.flows.specs.Flow.{FlowModel}
use Rattle.promises.specs.Promises.{den}
use Rattle.port.specs.Port.{Level, full, flow_at}
use Rattle.pipe.specs.Pipe.{Packet, Passed, PipeModel, MayEnter, MayCome, MayPass, MayTick, empty, entrant, entered, met, left, ticked, level_with}
use Rattle.pipe.specs.Laws.{OneOf, NoLonger}
use Rattle.pipe.proofs.LevelLaws.{full_at, Behind, behind_later, behind-then}
use Rattle.pipe.proofs.LineLaws.{one_weaker, carried, Carries, Chain, chain_push, chain-comes, Rising, rising_from, rising_to, rising_ends, rising_push, rising_comes, Front, front_push, front_comes, Due, due_push, due-comes, due-next}

-- each of these passed no later than it, or one before it, took to come
abbrev pub Costless : List Passed → Type 0
Costless [] = Unit {0}
Costless (g ∷ gs) = OneOf (NoLonger g.at g.packet.sent) (g ∷ gs) × Costless gs

-- late is how much later, at most, a packet passed at the next port than at the first; then is what the last packet of each flow there carried.
pub record Kept (fs : List FlowModel) (s : PipeModel) : Type 0 where
  pub late : ℕ
  pub then : List Level
  pub sized : length s.levels ≡ length fs
  pub sized_next : length s.next ≡ length fs
  pub sized_then : length then ≡ length fs
  pub chain : Chain fs then s.pipe s.levels
  pub behind : (k : ℕ) → Behind (flow_at fs k) late (get_or s.next k full) (get_or then k full)
  pub past : (k : ℕ) → (get_or s.levels k full).last ≤ s.now
  pub rising : Rising 0 s.pipe s.now
  pub front : Front s.pipe
  pub due : Due s.now s.passed s.pipe
  pub lags : (late ≡ 0) ⊎ OneOf (NoLonger late 0) s.passed
  pub costless : Costless s.passed
  pub regular : (k : ℕ) → (get_or s.next k full).deficit ≤ den * (flow_at fs k).burst

pub empty-kept : (fs : List FlowModel) → Kept fs (empty fs)
empty-kept fs =
    record {
      late = 0;
      then = map (λ _. full) fs;
      sized = length-map fs (λ _. full);
      sized_next = length-map fs (λ _. full);
      sized_then = length-map fs (λ _. full);
      chain = refl;
      behind = λ k. rw (full_at fs k) (record { soon = omega arith; less = omega arith });
      past = λ k. rw (full_at fs k) (omega arith);
      rising = omega arith;
      front = tt;
      due = tt;
      lags = inl refl;
      costless = tt;
      regular = λ k. rw (full_at fs k) (omega arith);
    }

module _ (fs : List FlowModel) (s : PipeModel) (kept : Kept fs s) where
  pub tick-kept : MayTick fs s → Kept fs (ticked s)
  tick-kept may =
      record {
        late = kept.late;
        then = kept.then;
        sized = kept.sized;
        sized_next = kept.sized_next;
        sized_then = kept.sized_then;
        chain = kept.chain;
        behind = kept.behind;
        past = λ k. omega (arith, kept.past k);
        rising = rising_to 0 s.pipe s.now (s.now + 1) (omega arith) kept.rising;
        front = kept.front;
        due = next s.pipe refl kept.chain kept.rising;
        lags = kept.lags;
        costless = kept.costless;
        regular = kept.regular;
      }
    where
      -- a first packet that has come is not yet late, since it may not pass
      next : (ws : List Packet) → s.pipe ≡ ws → Chain fs kept.then ws s.levels → Rising 0 ws s.now → Due (s.now + 1) s.passed ws
      next [] is chain rising = tt
      next (w ∷ ws) is chain rising =
          λ t come. elim (cases_lt s.now (w.sent + kept.late)) [
            | inl soon ↦
                elim kept.lags [
                  | inl none ↦ absurd (omega (arith, none, soon, rising_ends w.sent ws s.now rising.1))
                  | inr one ↦ inr (one_weaker (NoLonger kept.late 0) (NoLonger (s.now + 1) w.sent) s.passed (λ m h. omega (arith, h, soon)) one)
                ]
            | inr over ↦
                let none : w.sent + kept.late - s.now ≡ 0 = omega arith in
                let zero : (flow_at fs w.flow).rate * (w.sent + kept.late - s.now) ≡ 0 = rw none (mul-zero (flow_at fs w.flow).rate) in
                let c = chain.0 in
                let less = behind-then (flow_at fs w.flow) kept.late w.sent s.now (get_or s.next w.flow full) (get_or kept.then w.flow full)
                c.since (kept.behind w.flow) in
                absurd (may w ws t (record { first = is; come = come; regular = omega (arith, less, zero, c.is, c.regular) }))
          ]

  pub come-kept : (front : List Packet) (w : Packet) (back : List Packet) → MayCome s front w back → Kept fs (met s front w back)
  come-kept front w back may =
      record {
        late = kept.late;
        then = kept.then;
        sized = kept.sized;
        sized_next = kept.sized_next;
        sized_then = kept.sized_then;
        chain = chain-comes fs kept.then front s.levels s.now w back (subst (λ ws. Chain fs kept.then ws s.levels) may.stands kept.chain);
        behind = kept.behind;
        past = kept.past;
        rising = rising_comes 0 front s.now w back s.now (subst (λ ws. Rising 0 ws s.now) may.stands kept.rising);
        front = front_comes front s.now w back may.first (subst (λ ws. Front ws) may.stands kept.front);
        due = due-comes s.now s.passed front w back (subst (λ ws. Due s.now s.passed ws) may.stands kept.due);
        lags = kept.lags;
        costless = kept.costless;
        regular = kept.regular;
      }

  pub enter_kept : (k len : ℕ) → MayEnter fs s k len → Kept fs (entered fs s k len)
  enter_kept k len may =
      let known : k < length s.levels = omega (arith, kept.sized, may.known) in
      record {
        late = kept.late;
        then = kept.then;
        sized = length-set s.levels k (level_with fs s.levels s.now k len) ∙ kept.sized;
        sized_next = kept.sized_next;
        sized_then = kept.sized_then;
        chain =
            chain_push fs kept.then s.pipe s.levels
            (entrant fs s k len) kept.chain
            (record { known = may.known; since = kept.past k; is = refl; regular = may.regular });
        behind = kept.behind;
        past = λ j. elim (cases_eq j k) [
          | inl same ↦ rw (same, get_or-set_same s.levels k (level_with fs s.levels s.now k len) full known) (omega arith)
          | inr other ↦ rw (get_or-set_other s.levels k j (level_with fs s.levels s.now k len) full other) (kept.past j)
        ];
        rising =
            rising_push 0 s.pipe
            (entrant fs s k len) kept.rising;
        front =
            front_push s.pipe
            (entrant fs s k len) refl kept.front;
        due =
            due_push s.now s.passed s.pipe
            (entrant fs s k len) refl kept.due;
        lags = kept.lags;
        costless = kept.costless;
        regular = kept.regular;
      }

  -- the first passes
  module _ (w : Packet) (rest : List Packet) (t : ℕ) (may : MayPass fs s w rest t) where
    abbrev gone : List Passed
    gone = record { packet = w; came = t; at = s.now } ∷ s.passed

    abbrev level : Level
    level = level_with fs s.next s.now w.flow w.len

    chain : Carries fs kept.then w × Chain fs (set kept.then w.flow (carried w)) rest s.levels
    chain = subst (λ ws. Chain fs kept.then ws s.levels) may.first kept.chain

    rising : (0 ≤ w.sent) × Rising w.sent rest s.now
    rising = subst (λ ws. Rising 0 ws s.now) may.first kept.rising

    one : OneOf (NoLonger s.now w.sent) gone
    one = elim (subst (λ ws. Due s.now s.passed ws) may.first kept.due t may.come) [ inl soon ↦ inl (omega arith) | inr there ↦ inr there ]

    -- how late it is counts, if it is more
    latest : (late : ℕ) × (kept.late ≤ late) × (s.now ≤ w.sent + late) × ((late ≡ 0) ⊎ OneOf (NoLonger late 0) gone)
    latest =
        elim (cases_lt (w.sent + kept.late) s.now) [
          | inl more ↦ (
            s.now - w.sent,
            omega arith,
            omega arith,
            inr (one_weaker (NoLonger s.now w.sent) (NoLonger (s.now - w.sent) 0) gone (λ m h. omega (arith, h, more)) one),
          )
          | inr less ↦ (kept.late, omega arith, less, elim kept.lags [ inl none ↦ inl none | inr there ↦ inr (inr there) ])
        ]

    in_next : w.flow < length s.next
    in_next = omega (arith, chain.0.known, kept.sized_next)

    in_then : w.flow < length kept.then
    in_then = omega (arith, chain.0.known, kept.sized_then)

    same_behind : Behind (flow_at fs w.flow) latest.0 level (carried w)
    same_behind =
        let late = latest.1 in
        let c = chain.0 in
        let less = behind-then (flow_at fs w.flow) latest.0 w.sent s.now (get_or s.next w.flow full) (get_or kept.then w.flow full)
        c.since (behind_later (flow_at fs w.flow) kept.late latest.0 (get_or s.next w.flow full) (get_or kept.then w.flow full) late (kept.behind w.flow)) in
        record { soon = latest.2; less = omega (arith, less, c.is) }

    pub pass_kept : Kept fs (left fs s w rest t)
    pass_kept =
        record {
          late = latest.0;
          then = set kept.then w.flow (carried w);
          sized = kept.sized;
          sized_next = length-set s.next w.flow level ∙ kept.sized_next;
          sized_then = length-set kept.then w.flow (carried w) ∙ kept.sized_then;
          chain = chain.1;
          behind = λ k. elim (cases_eq k w.flow) [
            | inl same ↦
                rw (same, get_or-set_same s.next w.flow level full in_next, get_or-set_same kept.then w.flow (carried w) full in_then) same_behind
            | inr other ↦
                rw (get_or-set_other s.next w.flow k level full other, get_or-set_other kept.then w.flow k (carried w) full other)
                (behind_later (flow_at fs k) kept.late latest.0 (get_or s.next k full) (get_or kept.then k full) latest.1 (kept.behind k))
          ];
          past = kept.past;
          rising = rising_from w.sent 0 rest s.now (omega arith) rising.1;
          front = (subst (λ ws. Front ws) may.first kept.front).1;
          due = due-next s.now w.sent gone rest s.now rising.1 one;
          lags = latest.3;
          costless = (one, kept.costless);
          regular = λ k. elim (cases_eq k w.flow) [
            | inl same ↦ rw (same, get_or-set_same s.next w.flow level full in_next) may.regular
            | inr other ↦ rw (get_or-set_other s.next w.flow k level full other) (kept.regular k)
          ];
        }
