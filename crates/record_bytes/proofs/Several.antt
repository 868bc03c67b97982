-- Parts of one kind, one after the other: a loop that reads them, and what they tell. Assumes nothing.
use Rattle.std.proofs.Common.{◌≡◌, ℕ, zero, suc, ◌+◌, ◌-◌, ◌<◌, ◌≤◌, List, [], ◌∷◌, ◌++◌, length, take, set, sym, refl, ap, ◌∙◌, subst₂, append_assoc, add-zero, add_assoc, arith, length-append}
use Rattle.std.proofs.lemmas.List.{take_more_set, take_all, append-nil}
use Rattle.std.specs.List.{flat_map, AllByRecursion as Each}
use Rattle.record_bytes.specs.Reading.{Cursor, Outcome, read, fault, and_then, several}
use Rattle.record_bytes.specs.Numbers.{IsByte}
use Rattle.record_bytes.proofs.Sequence.{both_read}
use Rattle.record_bytes.proofs.Written.{Told, told_then, told_none}
use Rattle.record_bytes.proofs.Steady.{Steady, steady_then, steady_value}

-- what was read before, and then the rest
abbrev pub behind : {A : Type 0} → List A → Outcome (List A) → Outcome (List A)
behind done o = and_then o (λ vs c. read (done ++ vs) c)

several-more : {A : Type 0} (n : ℕ) (one : Cursor → Outcome A) (done : List A) (v : A) (c after : Cursor) → 0 < n →
    read v after ≡ one c → behind done (several n one c) ≡ behind (done ++ v ∷ []) (several (n - 1) one after)
unfolding several
several-more {A = A} zero one done v c after some is = absurd (omega arith)
several-more {A = A} (suc n) one done v c after some is =
    let e : suc n - 1 ≡ n = omega arith in
    rw (e, ← is) (regroup (several n one after))
  where
    regroup : (o : Outcome (List A)) →
        and_then (and_then o (λ vs d. read (v ∷ vs) d)) (λ vs d. read (done ++ vs) d) ≡ and_then o (λ vs d. read (done ++ v ∷ [] ++ vs) d)
    regroup (read vs d) = rw (append_assoc done (v ∷ []) vs) refl
    regroup (fault code place) = refl

several-fault : {A : Type 0} (n : ℕ) (one : Cursor → Outcome A) (done : List A) (code place : ℕ) (c : Cursor) → 0 < n →
    fault code place ≡ one c → fault code place ≡ behind done (several n one c)
unfolding several
several-fault zero one done code place c some is = absurd (omega arith)
several-fault (suc n) one done code place c some is = rw (← is) refl

-- A loop that reads n parts into a table of n places, of which i are there: how it begins, a turn, a fault, and its end.
module _ {A : Type 0} (n i : ℕ) (one : Cursor → Outcome A) (table : List A) (c : Cursor) (whole : Outcome (List A)) where
  abbrev pub Reads : Type 0
  Reads = behind (take i table) (several (n - i) one c) ≡ whole

  pub reads_on : (v : A) (after : Cursor) → i < n → i < length table → read v after ≡ one c → Reads →
      behind (take (i + 1) (set table i v)) (several (n - (i + 1)) one after) ≡ whole
  reads_on v after more room is reads =
      let e : n - (i + 1) ≡ n - i - 1 = omega arith in
      rw (take_more_set table i v room, e) (sym (several-more (n - i) one (take i table) v c after (omega arith) is) ∙ reads)

  pub reads_fault : (code place : ℕ) → i < n → fault code place ≡ one c → Reads → fault code place ≡ whole
  reads_fault code place more is reads = several-fault (n - i) one (take i table) code place c (omega arith) is ∙ reads

  pub reads_end : n ≤ i → i ≤ n → Reads → read (take n table) c ≡ whole
  unfolding several
  reads_end all most reads =
      let same : n ≡ i = omega arith in
      let none : n - i ≡ 0 = omega arith in
      let got : read (take i table ++ []) c ≡ whole = rw none at reads in
      rw (same, ← append-nil (take i table)) got

  -- of a table that is as long
  pub reads_whole : length table ≡ n → n ≤ i → i ≤ n → Reads → read table c ≡ whole
  reads_whole size all most reads = ap (λ t. read t c) (sym (take_all n table (omega arith))) ∙ reads_end all most reads

module _ {A : Type 0} (Sound : A → Type 0) (one : Cursor → Outcome A) (write : A → List ℕ) where
  pub steady_several : Steady one → (n : ℕ) → Steady (several n one)
  unfolding several
  steady_several steady zero = steady_value []
  steady_several steady (suc n) =
      steady_then one _ steady (λ v. steady_then (several n one) _ (steady_several steady n) (λ vs. steady_value (v ∷ vs)))

  pub several_written : ((v : A) → Sound v → (at : ℕ) (rest : List ℕ) →
      one (record { at = at; rest = write v ++ rest }) ≡ read v (record { at = at + length (write v); rest = rest })) →
      (vs : List A) → Each Sound vs → (at : ℕ) (rest : List ℕ) →
      several (length vs) one (record { at = at; rest = flat_map write vs ++ rest }) ≡ read vs (record { at = at + length (flat_map write vs); rest = rest })
  unfolding several
  several_written written [] sound at rest = rw (add-zero at) refl
  several_written written (v ∷ vs) sound at rest =
      rw (
        append_assoc (write v) (flat_map write vs) rest,
        written v sound.0 at (flat_map write vs ++ rest),
        several_written written vs sound.1 (at + length (write v)) rest,
        length-append (write v) (flat_map write vs),
        add_assoc at (length (write v)) (length (flat_map write vs)),
      ) refl

  pub several_told : ((v : A) (c after : Cursor) → one c ≡ read v after → Each IsByte c.rest → Sound v × Told c after (write v)) →
      (n : ℕ) (vs : List A) (c after : Cursor) → several n one c ≡ read vs after → Each IsByte c.rest →
      (length vs ≡ n) × Each Sound vs × Told c after (flat_map write vs)
  unfolding several
  several_told told zero vs c after e bytes =
      let none : [] ≡ vs = cc in
      let same : c ≡ after = cc in
      rw (← none, ← same) (refl, tt, told_none c bytes)
  several_told told (suc n) vs c after e bytes =
      let first = both_read (one c) _ vs after e in
      let second = both_read (several n one first.1) _ vs after first.3 in
      let is : first.0 ∷ second.0 ≡ vs = cc second.3 in
      let ends : second.1 ≡ after = cc second.3 in
      let head = told first.0 c first.1 first.2 bytes in
      let tail = several_told told n second.0 first.1 second.1 second.2 head.1.left in
      let P : List A → Cursor → Type 0 = λ ws d. (length ws ≡ suc n) × Each Sound ws × Told c d (flat_map write ws) in
      subst₂ P is ends (
        ap suc tail.0,
        (head.0, tail.1),
        told_then c first.1 second.1 (write first.0) (flat_map write second.0) head.1 tail.2,
      )
