-- Roads. Assumes nothing.
use Rattle.std.proofs.Common.{◌≡◌, ℕ, zero, suc, ◌+◌, ◌-◌, ◌<◌, ◌≤◌, Bool, true, false, cond, not, ◌&&◌, eqb, ltb, List, [], ◌∷◌, ◌++◌, length, get_or, take, set, sym, refl, ◌∙◌, subst, append_assoc, add-zero, zero-add, arith}
use Rattle.std.proofs.lemmas.List.{take_more_set, append-nil, length_push, get_or-take}
use Rattle.std.proofs.ByRecursion.{All-push, All-get_or}
use Rattle.std.specs.List.{AllByRecursion as Each}
use Rattle.std.proofs.lemmas.Bool.{lt-ltb, ltb-true, eqb-true, eqb-false, eq-eqb, ne_eqb, or_parts, or_from, and_parts, and_from, not-true, not_from_false}
use Rattle.record_bytes.specs.Reading.{Cursor, Outcome, read, fault, and_then}
use Rattle.record_bytes.specs.Numbers.{number, IsByte}
use Rattle.record_bytes.proofs.Sequence.{both_read, test_passed}
use Rattle.record_bytes.proofs.Digits.{bytes_of_one}
use Rattle.record_bytes.proofs.Written.{Told, told_then, told_none, number_told, number_written}
use Rattle.record_bytes.proofs.Steady.{Steady, cut_to, steady_then, steady_value, steady_number}
use Rattle.flows.proofs.NetLaws.{in_table}
use Rattle.flows.specs.Flow.{Once, Joined, IsRoad}
use Rattle.flows.specs.Net.{NetModel, port_at}
use Rattle.flows.specs.FlowFormat.{passes, joins, port_number, road_port, road_from}

pub joins-first : (net : NetModel) (road : List ℕ) (p : ℕ) → length road ≤ 0 → true ≡ joins net road p
unfolding joins
joins-first net [] p none = refl
joins-first net (q ∷ qs) p none = absurd (omega arith)

pub joins-last : (net : NetModel) (road : List ℕ) (p last : ℕ) → 0 < length road → last ≡ get_or road (length road - 1) last →
    eqb (port_at net last).ends (port_at net p).switch ≡ joins net road p
unfolding joins
joins-last net [] p last some is = absurd (omega arith)
joins-last net (q ∷ []) p last some is = let e : last ≡ q = is in rw e refl
joins-last net (q ∷ r ∷ rs) p last some is =
    let at : suc (suc (length rs)) - 1 ≡ suc (suc (length rs) - 1) = omega arith in
    joins-last net (r ∷ rs) p last (omega arith) (rw at at is)

-- the next port of a road is a port of the net that may come next
module _ (net : NetModel) (road : List ℕ) (c : Cursor) where
  abbrev judged : ℕ → Cursor → Outcome ℕ
  judged p after = cond (not (passes p road) && joins net road p) (read p after) (fault 3 c.at)

  pub road_port_by_number : road_port net road c ≡ and_then (port_number (length net.ports) c) judged
  unfolding road_port port_number
  road_port_by_number = of (number 1 c)
    where
      known : (b : Bool) (p : ℕ) (after : Cursor) → cond b (judged p after) (fault 2 c.at) ≡ and_then (cond b (read p after) (fault 2 c.at)) judged
      known true p after = refl
      known false p after = refl

      of : (o : Outcome ℕ) → and_then o (λ p after. cond (ltb p (length net.ports)) (judged p after) (fault 2 c.at)) ≡
          and_then (and_then o (λ p after. cond (ltb p (length net.ports)) (read p after) (fault 2 c.at))) judged
      of (fault n p) = refl
      of (read p after) = known (ltb p (length net.ports)) p after

  port_missing : (place : ℕ) → fault 1 place ≡ number 1 c → fault 1 place ≡ road_port net road c
  unfolding road_port
  port_missing place is = rw (← is) refl

  port-taken : (p : ℕ) (after : Cursor) → read p after ≡ number 1 c → p < length net.ports →
      (not (passes p road) && joins net road p) ≡ true → read p after ≡ road_port net road c
  unfolding road_port
  port-taken p after is known may = rw (← is, lt-ltb p (length net.ports) known, may) refl

-- A loop that reads a road of n ports into a table, of which i are there: a turn, a fault, and its end.
module _ (net : NetModel) (n i : ℕ) (table : List ℕ) (c : Cursor) (whole : Outcome (List ℕ)) where
  abbrev pub Goes : Type 0
  Goes = road_from net (n - i) (take i table) c ≡ whole

  pub goes_on_lem : (p : ℕ) (after : Cursor) → i < n → i < length table → read p after ≡ road_port net (take i table) c → Goes →
      road_from net (n - (i + 1)) (take (i + 1) (set table i p)) after ≡ whole
  unfolding road_from
  goes_on_lem p after more room is goes =
      let e : n - i ≡ suc (n - (i + 1)) = omega arith in
      rw (take_more_set table i p room) (turn (n - (i + 1)) (rw e at goes))
    where
      turn : (m : ℕ) → road_from net (suc m) (take i table) c ≡ whole → road_from net m (take i table ++ p ∷ []) after ≡ whole
      turn m g = rw (← is, road_from) at g

  pub goes-fault : (code place : ℕ) → i < n → fault code place ≡ road_port net (take i table) c → Goes → fault code place ≡ whole
  unfolding road_from
  goes-fault code place more is goes =
      let e : n - i ≡ suc (n - (i + 1)) = omega arith in
      turn (n - (i + 1)) (rw e at goes)
    where
      turn : (m : ℕ) → road_from net (suc m) (take i table) c ≡ whole → fault code place ≡ whole
      turn m g = rw (← is, road_from) at g

  pub goes_end : n ≤ i → i ≤ n → Goes → read (take n table) c ≡ whole
  unfolding road_from
  goes_end all most goes =
      let same : n ≡ i = omega arith in
      let none : n - i ≡ 0 = omega arith in
      let got : read (take i table) c ≡ whole = rw none at goes in
      rw same got

-- a road and one port more
once_push : (road : List ℕ) (p : ℕ) → Once road → passes p road ≡ false → Once (road ++ p ∷ [])
unfolding passes
once_push [] p once apart = (tt, tt)
once_push (q ∷ qs) p once apart =
    let parts = or_parts (eqb p q) (passes p qs) apart in
    (All-push (λ r. r ≡ q → ⊥) qs p once.0 (eqb-false p q parts.0), once_push qs p once.1 parts.1)

joined_push : (net : NetModel) (road : List ℕ) (p : ℕ) → Joined net road → joins net road p ≡ true → Joined net (road ++ p ∷ [])
unfolding joins
joined_push net [] p joined may = tt
joined_push net (q ∷ []) p joined may = (sym (eqb-true _ _ may), tt)
joined_push net (q ∷ r ∷ rs) p joined may = (joined.0, joined_push net (r ∷ rs) p joined.1 may)

pub road_push : (net : NetModel) (road : List ℕ) (p : ℕ) → IsRoad net road → p < length net.ports → passes p road ≡ false →
    joins net road p ≡ true → IsRoad net (road ++ p ∷ [])
road_push net road p is known apart may =
    record {
      known = All-push (λ q. q < length net.ports) road p is.known known;
      once = once_push road p is.once apart;
      connected = joined_push net road p is.connected may;
    }

-- what a road says of a port on it and those before it
once_split : (road ps : List ℕ) (p : ℕ) → Once (road ++ p ∷ ps) → passes p road ≡ false
unfolding passes
once_split [] ps p once = refl
once_split (q ∷ qs) ps p once =
    or_from (eqb p q) (passes p qs) (ne_eqb p q (all_middle (λ r. r ≡ q → ⊥) qs ps p once.0)) (once_split qs ps p once.1)
  where
    all_middle : (P : ℕ → Type 0) (xs ys : List ℕ) (x : ℕ) → Each P (xs ++ x ∷ ys) → P x
    all_middle P [] ys x all = all.0
    all_middle P (y ∷ xs) ys x all = all_middle P xs ys x all.1

joined_split : (net : NetModel) (road ps : List ℕ) (p : ℕ) → Joined net (road ++ p ∷ ps) → joins net road p ≡ true
unfolding joins
joined_split net [] ps p joined = refl
joined_split net (q ∷ []) ps p joined = eq-eqb _ _ (sym joined.0)
joined_split net (q ∷ r ∷ rs) ps p joined = joined_split net (r ∷ rs) ps p joined.1

known_split : (P : ℕ → Type 0) (road ps : List ℕ) (p : ℕ) → Each P (road ++ p ∷ ps) → P p
known_split P [] ps p all = all.0
known_split P (q ∷ qs) ps p all = known_split P qs ps p all.1

port_told : (net : NetModel) (road : List ℕ) (p : ℕ) (c after : Cursor) → road_port net road c ≡ read p after →
    (number 1 c ≡ read p after) × (p < length net.ports) × (passes p road ≡ false) × (joins net road p ≡ true)
unfolding road_port
port_told net road p c after e =
    let got = both_read (number 1 c) _ p after e in
    judged got.0 got.1 got.2 (ltb got.0 (length net.ports)) refl got.3
  where
    judged : (q : ℕ) (d : Cursor) → number 1 c ≡ read q d → (b : Bool) → ltb q (length net.ports) ≡ b →
        cond b (cond (not (passes q road) && joins net road q) (read q d) (fault 3 c.at)) (fault 2 c.at) ≡ read p after →
        (number 1 c ≡ read p after) × (p < length net.ports) × (passes p road ≡ false) × (joins net road p ≡ true)
    judged q d is false past e = let z : ◌≡◌ {A = ℕ} 0 1 = cc in absurd (omega arith)
    judged q d is true known e =
        let passed = test_passed (not (passes q road) && joins net road q) q p d after 3 _ e in
        let both = and_parts (not (passes q road)) (joins net road q) passed.0 in
        let P : ℕ → Type 0 = λ x. (x < length net.ports) × (passes x road ≡ false) × (joins net road x ≡ true) in
        let all = subst P passed.1 (ltb-true q (length net.ports) known, not-true (passes q road) both.0, both.1) in
        (cc (is, passed.1, passed.2), all.0, all.1, all.2)

-- a road that is read goes on from what was there, and is one
pub road_told : (net : NetModel) (n : ℕ) (road ps : List ℕ) (c after : Cursor) → road_from net n road c ≡ read ps after → IsRoad net road →
    (length ps ≡ length road + n) × IsRoad net ps
unfolding road_from
road_told net zero road ps c after e is =
    let same : road ≡ ps = cc in
    let P : List ℕ → Type 0 = λ x. (length x ≡ length road + 0) × IsRoad net x in
    subst P same (sym (add-zero (length road)), is)
road_told net (suc n) road ps c after e is =
    let got = both_read (road_port net road c) _ ps after e in
    let port = port_told net road got.0 c got.1 got.2 in
    let more = road_told net n (road ++ got.0 ∷ []) ps got.1 after got.3 (road_push net road got.0 is port.1 port.2 port.3) in
    (omega (arith, more.0, length_push road got.0), more.1)

-- the bytes of a road are its ports
pub road-bytes : (net : NetModel) (n : ℕ) (road ps : List ℕ) (c after : Cursor) → road_from net n road c ≡ read ps after → Each IsByte c.rest →
    (qs : List ℕ) × (ps ≡ road ++ qs) × Told c after qs
unfolding road_from
road-bytes net zero road ps c after e bytes =
    let same : road ≡ ps = cc in
    let here : c ≡ after = cc in
    let P : Cursor → Type 0 = λ d. Told c d [] in
    ([], sym same ∙ sym (append-nil road), subst P here (told_none c bytes))
road-bytes net (suc n) road ps c after e bytes =
    let got = both_read (road_port net road c) _ ps after e in
    let port = port_told net road got.0 c got.1 got.2 in
    let first = number_told 1 got.0 c got.1 port.0 bytes in
    let told : Told c got.1 (got.0 ∷ []) = rw (bytes_of_one got.0) at first.1 in
    let more = road-bytes net n (road ++ got.0 ∷ []) ps got.1 after got.3 first.1.left in
    (got.0 ∷ more.0, more.1 ∙ append_assoc road (got.0 ∷ []) more.0, told_then c got.1 after (got.0 ∷ []) more.0 told more.2)

-- a road that was written is read
pub road_written : (net : NetModel) (ps road : List ℕ) → length net.ports ≤ 64 → IsRoad net (road ++ ps) → (at : ℕ) (rest : List ℕ) →
    road_from net (length ps) road (record { at = at; rest = ps ++ rest }) ≡ read (road ++ ps) (record { at = at + length ps; rest = rest })
unfolding road_from
road_written net [] road few is at rest = rw (add-zero at, append-nil road) refl
road_written net (p ∷ ps) road few is at rest =
    let known = known_split (λ q. q < length net.ports) road ps p is.known in
    let apart = once_split road ps p is.once in
    let may = joined_split net road ps p is.connected in
    let single : number 1 (record { at = at; rest = p ∷ (ps ++ rest) }) ≡ read p (record { at = at + 1; rest = ps ++ rest }) =
    rw (bytes_of_one p) at (number_written 1 p at (ps ++ rest) (omega arith)) in
    let one = port-taken net road (record { at = at; rest = p ∷ (ps ++ rest) }) p (record { at = at + 1; rest = ps ++ rest }) (sym single) known
    (and_from _ _ (not_from_false _ apart) may) in
    let regroup : road ++ p ∷ [] ++ ps ≡ road ++ p ∷ ps = append_assoc road (p ∷ []) ps in
    let P : List ℕ → Type 0 = IsRoad net in
    let more = road_written net ps (road ++ p ∷ []) few (subst P (sym regroup) is) (at + 1) rest in
    let places : at + 1 + length ps ≡ at + suc (length ps) = omega arith in
    rw (← one, more, regroup, places) refl

steady_port : (net : NetModel) (road : List ℕ) → Steady (road_port net road)
steady_port net road c after p e =
    let port = port_told net road p c after e in
    let one = steady_number 1 c after p port.0 in
    let may = and_from (not (passes p road)) (joins net road p) (not_from_false (passes p road) port.2) port.3 in (
      one.0,
      record {
        enough = one.1.enough;
        onward = one.1.onward;
        longer = λ m h. sym (port-taken net road (cut_to m c) p (cut_to (m - one.0) after) (sym (one.1.longer m h)) port.1 may);
        shorter = λ m h. sym (port_missing net road (cut_to m c) (c.at + m) (sym (one.1.shorter m h)));
      },
    )

pub steady_road : (net : NetModel) (n : ℕ) (road : List ℕ) → Steady (road_from net n road)
unfolding road_from
steady_road net zero road = steady_value road
steady_road net (suc n) road = steady_then (road_port net road) _ (steady_port net road) (λ p. steady_road net n (road ++ p ∷ []))

-- a road in a table, place by place
pub road-places : (net : NetModel) (n : ℕ) (table : List ℕ) (c after : Cursor) → length net.ports ≤ 64 →
    read (take n table) after ≡ road_from net n [] c → (n ≤ length table) × ((k : ℕ) → k < n → get_or table k 0 < 64)
road-places net n table c after few e =
    let told = road_told net n [] (take n table) c after (sym e) (record { known = tt; once = tt; connected = tt }) in
    let size : length (take n table) ≡ n = told.0 ∙ zero-add n in (
      in_table n table size,
      λ k h.
          let there : k < length (take n table) = omega arith in
          let known = All-get_or (λ p. p < length net.ports) (take n table) k 0 there told.1.known in
          let here : get_or table k 0 < length net.ports = rw (get_or-take n table k 0 h) at known in
          omega arith,
    )
