-- What the code does at one port are steps of a port. Assumes nothing.
use Rattle.std.proofs.Common.{◌≡◌, ℕ, zero, suc, ◌+◌, ◌-◌, ◌*◌, ◌^◌, ◌<◌, ◌≤◌, Bool, true, false, cond, ◌&&◌, eqb, List, [], ◌∷◌, ◌++◌, map, length, get_or, set, Some, None, Option, sym, refl, ap, ◌∙◌, subst, inl, inr, arith}
use Rattle.std.proofs.lemmas.List.{get_or-map, map-set, map_push, length-map, length-set, get_or-set_same, get_or-set_other}
use Rattle.std.proofs.lemmas.Bool.{cases_Bool, cases_eq, and_parts, le-ltb, le-leb, ltb-true}
use Rattle.flows.specs.Flow.{FlowModel}
use Rattle.promises.specs.Promises.{den}
use Rattle.lines.specs.declared.packet.Packet.{Packet}
use Rattle.levels.specs.Levels.{LevelModel, full_level, level_at, at_tick, may_pass, spent}
use Rattle.levels.proofs.TickLaws.{may-only}
use Rattle.queues.specs.Lines.{taken_from, left_by}
use Rattle.queues.proofs.QueueLaws.{first_taken}
use Rattle.gates.specs.Gates.{no_level, level_of, class_of, known, has_cell, marked}
use Rattle.port.specs.Port as port
use Rattle.port.specs.Port.{flow_at, no_flow, full, deficit_at, queue_of, passed, still, ticked, passes, takes, ticks}
use Rattle.machine.specs.declared.sending.Sending.{Sending}
use Rattle.machine.specs.Phases.{leaves, goes_on, begun, last_bit}
use Rattle.machine.specs.Joint.{BareSending, bare, bare_of, sent, sent_of, ShowsLevel}
use Rattle.machine.specs.Laws.{StepTo, PassIsPass, TakeIsTake, TickIsTick, BeginsEmpty}

-- lists of lists, all of whose members are mapped
module _ {A B : Type 0} (f : A → B) where
  pub line-map : (ls : List (List A)) (c : ℕ) → get_or (map (map f) ls) c [] ≡ map f (get_or ls c [])
  line-map [] c = refl
  line-map (l ∷ ls) zero = refl
  line-map (l ∷ ls) (suc c) = line-map ls c

  pub put_map : (ls : List (List A)) (c : ℕ) (x : A) →
      map (map f) (set ls c (get_or ls c [] ++ x ∷ [])) ≡ set (map (map f) ls) c (get_or (map (map f) ls) c [] ++ f x ∷ [])
  put_map ls c x =
      map-set (map f) ls c (get_or ls c [] ++ x ∷ [])
      ∙ ap (set (map (map f) ls) c) (map_push f (get_or ls c []) x ∙ ap (λ l. l ++ f x ∷ []) (sym (line-map ls c)))

  map-none : (xs : List A) → map f xs ≡ [] → xs ≡ []
  map-none [] e = refl
  map-none (x ∷ xs) e = cc

record First {A B : Type 0} (f : A → B) (xs : List A) (b : B) (bs : List B) : Type 0 where
  head : A
  rest : List A
  is : xs ≡ head ∷ rest
  first : f head ≡ b
  others : map f rest ≡ bs

map_first : {A B : Type 0} (f : A → B) (xs : List A) (b : B) (bs : List B) → map f xs ≡ b ∷ bs → First f xs b bs
map_first f [] b bs e = cc
map_first f (x ∷ xs) b bs e = record { head = x; rest = xs; is = refl; first = cc; others = cc }

-- nothing has passed
pub begins-empty : BeginsEmpty
begins-empty e fs =
    record {
      tick = refl;
      queues = refl;
      sending = refl;
      many = length-map fs _;
      each = length-map fs _;
      levels = λ k h.
          let level = get_or-map (λ f. full_level f.burst f.rate) fs k no_flow no_level h in
          let lacks = get_or-map (λ f. full) fs k no_flow full h in
          rw (level, lacks) (record { burst = refl; rate = refl; last = refl; past = omega arith; level = omega arith });
    }

-- a packet passes: what its level loses, its flow's burst lacks
module _ (f : FlowModel) (t now len : ℕ) (l : LevelModel) (d : port.Level) (same : t ≡ now) (shows : ShowsLevel f t l d)
    (may : may_pass l t len ≡ true) where
  abbrev later : LevelModel
  later = record { burst = l.burst; rate = l.rate; level = level_at l t; last = t }

  abbrev less : LevelModel
  less = record { burst = l.burst; rate = l.rate; level = level_at l t - den * len; last = t }

  enough : den * len ≤ level_at l t
  enough = may-only l t len shows.past may

  together : level_at l t + deficit_at f d now ≡ den * f.burst
  together =
      let refill : l.rate * (t - l.last) ≡ f.rate * (now - d.last) =
      ap (λ r. r * (t - l.last)) shows.rate ∙ ap (λ b. f.rate * (t - b)) shows.last ∙ ap (λ b. f.rate * (b - d.last)) same in
      omega (arith, shows.level, shows.burst, refill)

  spent_is : spent (at_tick l t) len ≡ less
  spent_is =
      let at : at_tick l t ≡ later = rw (le-ltb t l.last shows.past) refl in
      let after : spent later len ≡ less = rw (le-leb (den * len) (level_at l t) enough) refl in
      ap (λ x. spent x len) at ∙ after

  pass_regular : deficit_at f d now + den * len ≤ den * f.burst
  pass_regular = omega (arith, together, enough)

  pass_level : ShowsLevel f t (spent (at_tick l t) len) (record { deficit = deficit_at f d now + den * len; last = now })
  pass_level =
      subst (λ x. ShowsLevel f t x (record { deficit = deficit_at f d now + den * len; last = now })) (sym spent_is)
      (record { burst = shows.burst; rate = shows.rate; last = same; past = omega arith; level = omega (arith, together, enough) })

-- the level of one flow changes
set-level : (fs : List FlowModel) (t k : ℕ) (ls : List LevelModel) (ds : List port.Level) (l : LevelModel) (d : port.Level) →
    length ls ≡ length fs → length ds ≡ length fs →
    ((j : ℕ) → j < length fs → ShowsLevel (flow_at fs j) t (get_or ls j no_level) (get_or ds j full)) →
    ShowsLevel (flow_at fs k) t l d →
    (j : ℕ) → j < length fs → ShowsLevel (flow_at fs j) t (get_or (set ls k l) j no_level) (get_or (set ds k d) j full)
set-level fs t k ls ds l d many each all new j h =
    elim (cases_eq j k) [
      | inl same ↦
          let hl : k < length ls = omega arith in
          let hd : k < length ds = omega arith in
          rw (same, get_or-set_same ls k l no_level hl, get_or-set_same ds k d full hd) new
      | inr other ↦ rw (get_or-set_other ls k j l no_level other, get_or-set_other ds k j d full other) (all j h)
    ]

-- a packet that enters the net is marked with the tick of its pass
marked-shows : (e : ℕ → Bool) (t now : ℕ) (packet : Packet) → t ≡ now →
    bare e (marked (e packet.flow) t packet) ≡ bare_of e (record { flow = packet.flow; len = packet.length; into = now })
marked-shows e t now packet same =
    ap (λ n. record { flow = packet.flow; len = packet.length; into = n }) (at (e packet.flow))
  where
    at : (b : Bool) → cond b (cond b t packet.edge) 0 ≡ cond b now 0
    at true = same
    at false = refl

pub pass_is_pass : PassIsPass
pass_is_pass e p fs room classes s m packet shows may =
    let fits = may.fitting in
    let flow : FlowModel = flow_at fs packet.flow in
    let l : LevelModel = level_of s.levels packet in
    let d : port.Level = get_or m.levels packet.flow full in
    let parts = and_parts (known classes packet s.levels) (may_pass l s.tick packet.length && has_cell room (class_of classes packet) s.queues) may.may in
    let is_Known = and_parts _ _ parts.0 in
    let in-levels = ltb-true packet.flow (length s.levels) is_Known.0 in
    let in-flows : packet.flow < length fs = omega (arith, in-levels, shows.many) in
    let high = (and_parts (may_pass l s.tick packet.length) (has_cell room (class_of classes packet) s.queues) parts.1).0 in
    let level = shows.levels packet.flow in-flows in
    record {
      next = passed fs m packet.flow packet.length;
      step =
          passes packet.flow packet.length
          (record {
            known = in-flows;
            crosses = fits.crosses;
            some = fits.some;
            short = fits.short;
            regular = pass_regular flow s.tick m.now packet.length l d shows.tick level high;
          })
          refl;
      shows =
          record {
            tick = shows.tick;
            queues =
                put_map (bare e) s.queues (class_of classes packet) (marked (e packet.flow) s.tick packet)
                ∙ ap (λ c. set (map (map (bare e)) s.queues) c (get_or (map (map (bare e)) s.queues) c [] ++ bare e (marked (e packet.flow) s.tick packet) ∷ [])) fits.class
                ∙ ap (λ b. set (map (map (bare e)) s.queues) flow.class (get_or (map (map (bare e)) s.queues) flow.class [] ++ b ∷ [])) (marked-shows e s.tick m.now packet shows.tick)
                ∙ ap (λ qs. set qs flow.class (get_or qs flow.class [] ++ bare_of e (record { flow = packet.flow; len = packet.length; into = m.now }) ∷ [])) shows.queues
                ∙ sym (put_map (bare_of e) m.queues flow.class (record { flow = packet.flow; len = packet.length; into = m.now }));
            sending = shows.sending;
            many = length-set s.levels packet.flow _ ∙ shows.many;
            each = length-set m.levels packet.flow _ ∙ shows.each;
            levels =
                set-level fs s.tick packet.flow s.levels m.levels _ _ shows.many shows.each shows.levels
                (pass_level flow s.tick m.now packet.length l d shows.tick level high);
          };
    }

-- what is being sent
not_sending : (e : ℕ → Bool) (x : Option port.Sending) → None ≡ sent_of e x → x ≡ None
not_sending e None is = refl
not_sending e (Some x) is = cc

not_sent : (e : ℕ → Bool) (x : Option Sending) → sent e x ≡ None → x ≡ None
not_sent e None is = refl
not_sent e (Some x) is = cc

-- a queue that is empty here is empty there
no_queue : (e : ℕ → Bool) (ls : List (List Packet)) (qs : List (List port.Packet)) (c : ℕ) → map (map (bare e)) ls ≡ map (map (bare_of e)) qs → get_or ls c [] ≡ [] → queue_of qs c ≡ []
no_queue e ls qs c same none =
    map-none (bare_of e) (queue_of qs c)
    (sym (line-map (bare_of e) qs c) ∙ ap (λ l. get_or l c []) (sym same) ∙ line-map (bare e) ls c ∙ ap (map (bare e)) none)

-- what is left when the first of a queue is taken here and there
left-shows : (e : ℕ → Bool) (ls : List (List Packet)) (qs : List (List port.Packet)) (c : ℕ) (others : List Packet) (rest : List port.Packet) →
    map (map (bare e)) ls ≡ map (map (bare_of e)) qs → map (bare_of e) rest ≡ map (bare e) others → map (map (bare e)) (set ls c others) ≡ map (map (bare_of e)) (set qs c rest)
left-shows e ls qs c others rest same left =
    map-set (map (bare e)) ls c others
    ∙ ap (set (map (map (bare e)) ls) c) (sym left)
    ∙ ap (λ l. set l c (map (bare_of e) rest)) same
    ∙ sym (map-set (map (bare_of e)) qs c rest)

-- and what is being sent then
begun-shows : (e : ℕ → Bool) (t now : ℕ) (packet : Packet) (w : port.Packet) → t ≡ now → bare_of e w ≡ bare e packet → t + packet.length < 2 ^ 64 →
    sent e (Some (record { packet = packet; until = last_bit t packet.length })) ≡ sent_of e (Some (record { packet = w; until = now + w.len }))
begun-shows e t now packet w tick same below =
    let until : last_bit t packet.length ≡ now + w.len = omega (arith, tick, ap (λ b. b.len) same) in
    ap (λ b. Some (record { packet = b; until = last_bit t packet.length })) (sym same)
    ∙ ap (λ u. Some (record { packet = bare_of e w; until = u })) until

first_there : (e : ℕ → Bool) (ls : List (List Packet)) (qs : List (List port.Packet)) (c : ℕ) (packet : Packet) (others : List Packet) →
    map (map (bare e)) ls ≡ map (map (bare_of e)) qs → get_or ls c [] ≡ packet ∷ others → First (bare_of e) (queue_of qs c) (bare e packet) (map (bare e) others)
first_there e ls qs c packet others same line =
    map_first (bare_of e) (queue_of qs c) (bare e packet) (map (bare e) others)
    (sym (line-map (bare_of e) qs c) ∙ ap (λ l. get_or l c []) (sym same) ∙ line-map (bare e) ls c ∙ ap (map (bare e)) line)

pub take_is_take : TakeIsTake
take_is_take e p fs s m class packet shows may =
    let it = first_taken s.queues class packet may.first in
    steps it.others it.left it.below (first_there e s.queues m.queues class packet it.others shows.queues it.line)
  where
    steps : (others : List Packet) → left_by s.queues ≡ set s.queues class others → ((d : ℕ) → d < class → get_or s.queues d [] ≡ []) →
        First (bare_of e) (queue_of m.queues class) (bare e packet) (map (bare e) others) →
        StepTo e p fs m (record { levels = s.levels; queues = left_by s.queues; sending = begun s.tick (taken_from 0 s.queues); tick = s.tick })
    steps others left lower there =
        record {
          next = port.taken m class there.head there.rest;
          step =
              takes class there.head there.rest
              (record {
                free = not_sending e m.sending (ap (sent e) (sym may.free) ∙ shows.sending);
                first = there.is;
                lowest = λ d h. no_queue e s.queues m.queues d shows.queues (lower d h);
              })
              refl;
          shows =
              record {
                tick = shows.tick;
                queues = ap (map (map (bare e))) left ∙ left-shows e s.queues m.queues class others there.rest shows.queues there.others;
                sending = ap (λ x. sent e (begun s.tick x)) may.first ∙ begun-shows e s.tick m.now packet there.head shows.tick there.first may.until;
                many = shows.many;
                each = shows.each;
                levels = shows.levels;
              };
        }

-- the last bit leaves here when it leaves there
still-sent : (e : ℕ → Bool) (t : ℕ) (x : Option Sending) (y : Option port.Sending) → sent e x ≡ sent_of e y → sent e (goes_on (leaves t x)) ≡ sent_of e (still t y)
still-sent e t None None is = refl
still-sent e t None (Some y) is = cc
still-sent e t (Some x) None is = cc
still-sent e t (Some x) (Some y) is =
    let same : ◌≡◌ {A = BareSending} (record { packet = bare e x.packet; until = x.until }) (record { packet = bare_of e y.packet; until = y.until }) = cc in
    let until : x.until ≡ y.until = ap (λ b. b.until) same in
    let test : eqb x.until t ≡ eqb y.until t = ap (λ u. eqb u t) until in
    elim (cases_Bool (eqb y.until t)) [
      | inl gone ↦ rw (test, gone) refl
      | inr on ↦ rw (test, on) is
    ]

pub tick_is_tick : TickIsTick
tick_is_tick e p fs s m shows idle =
    let same : s.tick + 1 ≡ m.now + 1 = ap (λ t. t + 1) shows.tick in
    record {
      next = ticked m;
      step =
          ticks
          (λ none c. no_queue e s.queues m.queues c shows.queues (idle (not_sent e s.sending (shows.sending ∙ ap (sent_of e) none)) c))
          refl;
      shows =
          record {
            tick = same;
            queues = shows.queues;
            sending = still-sent e (s.tick + 1) s.sending m.sending shows.sending ∙ ap (λ t. sent_of e (still t m.sending)) same;
            many = shows.many;
            each = shows.each;
            levels = λ k h.
                let level = shows.levels k h in
                record { burst = level.burst; rate = level.rate; last = level.last; past = omega (arith, level.past); level = level.level };
          };
    }
