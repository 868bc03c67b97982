-- What holds of the format of a kind of record. Assumes nothing.
use Rattle.std.specs.Prelude.{◌≡◌, ℕ, ◌<◌, Bool, true, false, List, length, take, ◌≢◌}
use Rattle.std.specs.List.{AllByRecursion as Each}
use Rattle.record_bytes.specs.Reading.{Verdict, accepted, refused}
use Rattle.record_bytes.specs.Numbers.{IsByte}

-- reading whole bytes: what a record is read as, where whole says that the input did not end inside it
pub record Format {A : Type 0} (Sound : A → Type 0) (reading : Bool → List ℕ → Verdict A) (writing : A → List ℕ) : Type 0 where
  -- reading what was written gives the value
  pub round_trip : (v : A) → Sound v → reading true (writing v) ≡ accepted v
  -- a record that is accepted is what is written for its value, which is sound: no two byte rows mean one value
  pub canonical : (whole : Bool) (bs : List ℕ) (v : A) → Each IsByte bs → reading whole bs ≡ accepted v → (bs ≡ writing v) × Sound v
  -- with fewer bytes it is refused, where the first that is missing would stand
  pub shortened : (whole : Bool) (bs : List ℕ) (v : A) → reading whole bs ≡ accepted v →
      (m : ℕ) → m < length bs → reading true (take m bs) ≡ refused 1 m
  -- where the input ended inside it, it is refused whatever is there
  pub cut : (bs : List ℕ) (v : A) → reading false bs ≢ accepted v
