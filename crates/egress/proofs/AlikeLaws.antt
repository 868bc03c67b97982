-- What a port does is the same whatever marks its packets carry. Assumes nothing.
use Rattle.std.proofs.Common.{◌≡◌, ℕ, zero, suc, ◌+◌, Bool, true, false, eqb, List, [], ◌∷◌, ◌++◌, map, get_or, set, Some, None, Option, sym, refl, ap, ◌∙◌, inl, inr, arith}
use Rattle.std.proofs.lemmas.List.{length-map, map-set}
use Rattle.std.proofs.lemmas.Bool.{cases_Bool}
use Rattle.lines.specs.declared.packet.Packet.{Packet}
use Rattle.levels.specs.Levels.{LevelModel}
use Rattle.queues.specs.declared.queues_of.Taken.{Taken}
use Rattle.queues.specs.declared.queues_of.Taken.TheVariants.{Packet as taken, Nothing}
use Rattle.queues.specs.Lines.{taken_from, left_by, packets_in, sum_over}
use Rattle.gates.specs.Gates.{Opened, class_of, marked, may_go, spent_by, queued_by, opened}
use Rattle.machine.specs.declared.sending.Sending.{Sending}
use Rattle.machine.specs.Phases.{begun, leaves as gone_at, goes_on as still}
use Rattle.machine.specs.Joint.{MachineModel}
use Rattle.machine.specs.Runs.{after_open, after_taking, after_tick}
use Rattle.machine.proofs.JointLaws.{put_map}
use Rattle.egress.specs.Egress.{GateModel, Accepted, gate_at, behind, accept, accept_all, open_one, open_all, passers, passers_of, all_passers}
use Rattle.egress.specs.Histories.{gone_of}

-- without its mark
abbrev pub unmarked : Packet → Packet
unmarked w = record { flow = w.flow; length = w.length; edge = 0 }

abbrev pub plain : List (List Packet) → List (List Packet)
plain ls = map (map unmarked) ls

abbrev pub plain_sending : Option Sending → Option Sending
plain_sending None = None
plain_sending (Some x) = Some (record { packet = unmarked x.packet; until = x.until })

-- two states that differ in marks alone
pub record Alike (s t : MachineModel) : Type 0 where
  pub levels : s.levels ≡ t.levels
  pub queues : plain s.queues ≡ plain t.queues
  pub sending : plain_sending s.sending ≡ plain_sending t.sending
  pub tick : s.tick ≡ t.tick

abbrev pub waits_of : List GateModel → List (List Packet)
waits_of gates = map (λ (g : GateModel). g.waits) gates

-- as many packets wait
plain_count : (ls : List (List Packet)) → packets_in (plain ls) ≡ packets_in ls
unfolding sum_over
plain_count [] = refl
plain_count (l ∷ ls) = omega (arith, plain_count ls, length-map l unmarked)

same_count : (ls ks : List (List Packet)) → plain ls ≡ plain ks → packets_in ls ≡ packets_in ks
same_count ls ks same = sym (plain_count ls) ∙ ap packets_in same ∙ plain_count ks

module _ (room : ℕ) (classes : List ℕ) where
  queued-alike : (b d : Bool) (tick : ℕ) (w : Packet) (ls ks : List (List Packet)) → plain ls ≡ plain ks →
      plain (queued_by b classes tick w ls) ≡ plain (queued_by d classes tick w ks)
  queued-alike b d tick w ls ks same =
      put_map unmarked ls (class_of classes w) (marked b tick w)
      ∙ ap (λ qs. set qs (class_of classes w) (get_or qs (class_of classes w) [] ++ unmarked w ∷ [])) same
      ∙ sym (put_map unmarked ks (class_of classes w) (marked d tick w))

  -- a regulator opened at two such states
  record OpenAlike (b d : Bool) (tick : ℕ) (ws : List Packet) (levels : List LevelModel) (ls ks : List (List Packet)) : Type 0 where
    waits : (opened room b classes tick ws levels ls).waits ≡ (opened room d classes tick ws levels ks).waits
    levels_too : (opened room b classes tick ws levels ls).levels ≡ (opened room d classes tick ws levels ks).levels
    queues : plain (opened room b classes tick ws levels ls).queues ≡ plain (opened room d classes tick ws levels ks).queues
    row : passers room b classes tick ws levels ls ≡ passers room d classes tick ws levels ks

  same-may : (tick : ℕ) (w : Packet) (levels : List LevelModel) (ls ks : List (List Packet)) → plain ls ≡ plain ks →
      may_go room classes tick w levels ls ≡ may_go room classes tick w levels ks
  same-may tick w levels ls ks same = rw (same_count ls ks same) refl

  open-alike : (b d : Bool) (tick : ℕ) (ws : List Packet) (levels : List LevelModel) (ls ks : List (List Packet)) → plain ls ≡ plain ks →
      OpenAlike b d tick ws levels ls ks
  unfolding opened passers
  open-alike b d tick [] levels ls ks same = record { waits = refl; levels_too = refl; queues = same; row = refl }
  open-alike b d tick (w ∷ ws) levels ls ks same =
      let both = same-may tick w levels ls ks same in
      elim (cases_Bool (may_go room classes tick w levels ks)) [
        | inl may ↦
            let here : may_go room classes tick w levels ls ≡ true = both ∙ may in
            let rest = open-alike b d tick ws (spent_by tick w levels) (queued_by b classes tick w ls) (queued_by d classes tick w ks) (queued-alike b d tick w ls ks same) in
            record {
              waits = rw (here, may) rest.waits;
              levels_too = rw (here, may) rest.levels_too;
              queues = rw (here, may) rest.queues;
              row = rw (here, may) (ap (λ x. w ∷ x) rest.row);
            }
        | inr not ↦
            let here : may_go room classes tick w levels ls ≡ false = both ∙ not in
            record {
              waits = rw (here, not) refl;
              levels_too = rw (here, not) refl;
              queues = rw (here, not) same;
              row = rw (here, not) refl;
            }
      ]

  -- all of them
  pub record AllAlike (gs hs : List GateModel) (s t : MachineModel) : Type 0 where
    pub waits : waits_of (open_all room classes gs s).gates ≡ waits_of (open_all room classes hs t).gates
    pub machine : Alike (open_all room classes gs s).machine (open_all room classes hs t).machine
    pub rows : all_passers room classes gs s ≡ all_passers room classes hs t

  pub all-alike : (gs hs : List GateModel) (s t : MachineModel) → waits_of gs ≡ waits_of hs → Alike s t → AllAlike gs hs s t
  unfolding open_all all_passers
  all-alike [] [] s t same alike = record { waits = refl; machine = alike; rows = refl }
  all-alike [] (h ∷ hs) s t same alike = cc
  all-alike (g ∷ gs) [] s t same alike = cc
  all-alike (g ∷ gs) (h ∷ hs) s t same alike =
      let first : g.waits ≡ h.waits = cc in
      let others : waits_of gs ≡ waits_of hs = cc in
      let one = open-alike g.at_edge h.at_edge s.tick g.waits s.levels s.queues t.queues alike.queues in
      let here : opened room h.at_edge classes s.tick g.waits s.levels t.queues ≡ open_one room classes h t =
      ap (λ n. opened room h.at_edge classes n g.waits s.levels t.queues) alike.tick
      ∙ ap (λ ws. opened room h.at_edge classes t.tick ws s.levels t.queues) first
      ∙ ap (λ ls. opened room h.at_edge classes t.tick h.waits ls t.queues) alike.levels in
      let row : passers room h.at_edge classes s.tick g.waits s.levels t.queues ≡ passers_of room classes h t =
      ap (λ n. passers room h.at_edge classes n g.waits s.levels t.queues) alike.tick
      ∙ ap (λ ws. passers room h.at_edge classes t.tick ws s.levels t.queues) first
      ∙ ap (λ ls. passers room h.at_edge classes t.tick h.waits ls t.queues) alike.levels in
      let next : Alike (after_open s (open_one room classes g s)) (after_open t (open_one room classes h t)) =
      record {
        levels = one.levels_too ∙ ap (λ (o : Opened). o.levels) here;
        queues = one.queues ∙ ap (λ (o : Opened). plain o.queues) here;
        sending = alike.sending;
        tick = alike.tick;
      } in
      let rest = all-alike gs hs (after_open s (open_one room classes g s)) (after_open t (open_one room classes h t)) others next in
      record {
        waits =
            ap (λ ws. ws ∷ waits_of (open_all room classes gs (after_open s (open_one room classes g s))).gates) (one.waits ∙ ap (λ (o : Opened). o.waits) here)
            ∙ ap (λ r. (open_one room classes h t).waits ∷ r) rest.waits;
        machine = rest.machine;
        rows =
            ap (λ ws. ws ∷ all_passers room classes gs (after_open s (open_one room classes g s))) (one.row ∙ row)
            ∙ ap (λ r. passers_of room classes h t ∷ r) rest.rows;
      }

-- what is taken
taken_plain : Taken → Taken
taken_plain (taken c w) = taken c (unmarked w)
taken_plain Nothing = Nothing

take-plain : (b : ℕ) (ls : List (List Packet)) → taken_from b (plain ls) ≡ taken_plain (taken_from b ls)
unfolding taken_from taken_plain
take-plain b [] = refl
take-plain b ([] ∷ ls) = take-plain (b + 1) ls
take-plain b ((w ∷ ws) ∷ ls) = refl

left-plain : (ls : List (List Packet)) → left_by (plain ls) ≡ plain (left_by ls)
unfolding left_by
left-plain [] = refl
left-plain ([] ∷ ls) = ap (λ x. [] ∷ x) (left-plain ls)
left-plain ((w ∷ ws) ∷ ls) = refl

begun_plain : (t : ℕ) (v : Taken) → plain_sending (begun t v) ≡ begun t (taken_plain v)
unfolding taken_plain
begun_plain t (taken c w) = refl
begun_plain t Nothing = refl

taking-alike : (s t : MachineModel) (x y : Option Sending) → plain_sending x ≡ plain_sending y → Alike s t → Alike (after_taking s x) (after_taking t y)
taking-alike s t None None is alike =
    record {
      levels = alike.levels;
      queues = sym (left-plain s.queues) ∙ ap left_by alike.queues ∙ left-plain t.queues;
      sending =
          begun_plain s.tick (taken_from 0 s.queues)
          ∙ ap (begun s.tick) (sym (take-plain 0 s.queues) ∙ ap (taken_from 0) alike.queues ∙ take-plain 0 t.queues)
          ∙ sym (begun_plain s.tick (taken_from 0 t.queues))
          ∙ ap (λ n. plain_sending (begun n (taken_from 0 t.queues))) alike.tick;
      tick = alike.tick;
    }
taking-alike s t None (Some y) is alike = cc
taking-alike s t (Some x) None is alike = cc
taking-alike s t (Some x) (Some y) is alike = alike

pub take-alike : (s t : MachineModel) → Alike s t → Alike (after_taking s s.sending) (after_taking t t.sending)
take-alike s t alike = taking-alike s t s.sending t.sending alike.sending alike

-- what leaves
still-plain : (n : ℕ) (x : Option Sending) → plain_sending (still (gone_at n x)) ≡ still (gone_at n (plain_sending x))
still-plain n None = refl
still-plain n (Some x) =
    elim (cases_Bool (eqb x.until n)) [
      | inl now ↦ rw now refl
      | inr later ↦ rw later refl
    ]

pub leave-alike : (s t : MachineModel) → Alike s t → Alike (after_tick s) (after_tick t)
leave-alike s t alike =
    record {
      levels = alike.levels;
      queues = alike.queues;
      sending =
          still-plain (s.tick + 1) s.sending
          ∙ ap (λ x. still (gone_at (s.tick + 1) x)) alike.sending
          ∙ sym (still-plain (s.tick + 1) t.sending)
          ∙ ap (λ n. plain_sending (still (gone_at (n + 1) t.sending))) alike.tick;
      tick = ap (λ n. n + 1) alike.tick;
    }

gone-plain : (classes : List ℕ) (class n : ℕ) (x : Option Sending) →
    map unmarked (gone_of classes class (gone_at n x)) ≡ gone_of classes class (gone_at n (plain_sending x))
gone-plain classes class n None = refl
gone-plain classes class n (Some x) =
    elim (cases_Bool (eqb x.until n)) [
      | inl now ↦ rw now (elim (cases_Bool (eqb (class_of classes x.packet) class)) [
        | inl its ↦ rw its refl
        | inr other ↦ rw other refl
      ])
      | inr later ↦ rw later refl
    ]

pub gone-alike : (classes : List ℕ) (class : ℕ) (s t : MachineModel) → Alike s t →
    map unmarked (gone_of classes class (gone_at (s.tick + 1) s.sending)) ≡ map unmarked (gone_of classes class (gone_at (t.tick + 1) t.sending))
gone-alike classes class s t alike =
    gone-plain classes class (s.tick + 1) s.sending
    ∙ ap (λ x. gone_of classes class (gone_at (s.tick + 1) x)) alike.sending
    ∙ sym (gone-plain classes class (s.tick + 1) t.sending)
    ∙ ap (λ n. map unmarked (gone_of classes class (gone_at (n + 1) t.sending))) alike.tick

-- who comes
waits-at : (gs : List GateModel) (k : ℕ) → (gate_at gs k).waits ≡ get_or (waits_of gs) k []
waits-at [] k = refl
waits-at (g ∷ gs) zero = refl
waits-at (g ∷ gs) (suc k) = waits-at gs k

accept_waits : (c : Accepted) (gs : List GateModel) → waits_of (accept c gs) ≡ set (waits_of gs) c.gate (get_or (waits_of gs) c.gate [] ++ c.packet ∷ [])
accept_waits c gs =
    map-set (λ (g : GateModel). g.waits) gs c.gate (behind (gate_at gs c.gate) c.packet)
    ∙ ap (λ ws. set (waits_of gs) c.gate (ws ++ c.packet ∷ [])) (waits-at gs c.gate)

pub come-alike : (cs : List Accepted) (gs hs : List GateModel) → waits_of gs ≡ waits_of hs → waits_of (accept_all cs gs) ≡ waits_of (accept_all cs hs)
unfolding accept_all
come-alike [] gs hs same = same
come-alike (c ∷ cs) gs hs same =
    come-alike cs (accept c gs) (accept c hs)
    (accept_waits c gs ∙ ap (λ ws. set ws c.gate (get_or ws c.gate [] ++ c.packet ∷ [])) same ∙ sym (accept_waits c hs))
