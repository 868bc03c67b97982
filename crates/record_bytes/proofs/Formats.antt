-- What holds of a format follows from what holds of its parts. Assumes nothing.
use Rattle.std.proofs.Common.{◌≡◌, ℕ, ◌+◌, true, false, List, [], ◌++◌, length, refl, ap, ◌∙◌, subst, arith}
use Rattle.std.specs.List.{AllByRecursion as Each}
use Rattle.std.proofs.lemmas.List.{append-nil, nil_from_length}
use Rattle.record_bytes.specs.Reading.{Cursor, Outcome, read, accepted, closed, start}
use Rattle.record_bytes.specs.Numbers.{IsByte}
use Rattle.record_bytes.specs.Format.{Format}
use Rattle.record_bytes.proofs.Sequence.{closed-accepted}
use Rattle.record_bytes.proofs.Written.{Told}
use Rattle.record_bytes.proofs.Steady.{Steady, cut-refused}

module _ {A : Type 0} (Sound : A → Type 0) (body : Cursor → Outcome A) (write : A → List ℕ) where
  abbrev pub Writes : Type 0
  Writes = (v : A) → Sound v → (at : ℕ) (rest : List ℕ) →
      body (record { at = at; rest = write v ++ rest }) ≡ read v (record { at = at + length (write v); rest = rest })

  abbrev pub Tells : Type 0
  Tells = (v : A) (c after : Cursor) → body c ≡ read v after → Each IsByte c.rest → Sound v × Told c after (write v)

  pub format_of : Steady body → Writes → Tells → Format Sound (λ whole bs. closed whole (body (start bs))) write
  format_of steady writes tells =
      record {
        round_trip = λ v sound.
            let P : List ℕ → Type 0 = λ bs. closed true (body (start bs)) ≡ accepted v in
            subst P (append-nil (write v)) (rw (writes v sound 0 []) refl);
        canonical = λ whole bs v bytes e.
            let got = closed-accepted whole (body (start bs)) v e in
            let told = tells v (start bs) got.0 got.1 bytes in
            let none = nil_from_length got.0.rest got.2 in
            (told.1.bytes_are ∙ ap (λ xs. write v ++ xs) none ∙ append-nil (write v), told.0);
        shortened = λ whole bs v e. cut-refused body bs v whole steady e;
        cut = λ bs v e.
            let never = (closed-accepted false (body (start bs)) v e).3 in
            let z : ◌≡◌ {A = ℕ} 0 1 = cc in omega arith;
      }
