-- What the answers of the code say in the words of the definitions. Assumes nothing.
use Rattle.std.specs.Prelude.{◌≡◌, IfNone, ℕ, List, Some, None, Ok, Err, Option, Result}
use Rattle.record_bytes.specs.declared.fault.Fault.{Fault}
use Rattle.record_bytes.specs.declared.fault.Fault.TheVariants.{Length, Range, Road}
use Rattle.record_bytes.specs.declared.reader.Reader.{Reader}
use Rattle.record_bytes.specs.declared.piece.Piece.{Piece}
use Rattle.record_bytes.specs.declared.piece.Split.{Split}
use Rattle.record_bytes.specs.declared.records.Records.{Records}
use Rattle.std.specs.Iterator.{YieldsFirstBy}
use Rattle.record_bytes.specs.Row.{Extent, Next, finished, found, next_record, row}
use Rattle.record_bytes.specs.Reading.{Cursor, Outcome, read, fault, Verdict, accepted, refused, end_of}

-- the number of each fault
abbrev pub fault_number : Fault → ℕ
fault_number (Length at) = 1
fault_number (Range at) = 2
fault_number (Road at) = 3

-- and its place, the offset of a byte in the record
abbrev pub fault_place : Fault → ℕ
fault_place (Length at) = at
fault_place (Range at) = at
fault_place (Road at) = at

-- where a reader stands
abbrev pub cursor : Reader → Cursor
cursor r = record { at = r.at; rest = r.rest.now }

-- a number that was taken by a reader, which then stands at c; None says that a byte is missing
abbrev pub taken : {A : Type 0} → (A → ℕ) → Option A → Cursor → Outcome ℕ
taken model (Some n) c = read (model n) c
taken model None c = fault 1 (end_of c)

-- a part that was read by a reader, which then stands at c; model says what the value means
abbrev pub part : {A B : Type 0} → (A → B) → Result A Fault → Cursor → Outcome B
part model (Ok v) c = read (model v) c
part model (Err e) c = fault (fault_number e) (fault_place e)

-- a whole record, likewise
abbrev pub verdict : {A B : Type 0} → (A → B) → Result A Fault → Verdict B
verdict model (Ok v) = accepted (model v)
verdict model (Err e) = refused (fault_number e) (fault_place e)

abbrev pub extent : Piece → Extent
extent p = record { bytes = p.bytes.now; whole = p.whole }

-- the record that was found, and what is left of the input
abbrev pub following : Option Piece → List ℕ → Next
following None rest = finished
following (Some p) rest = found (extent p) rest

-- What a reader of records answers: the next one of what is left, and where there is none nothing is taken. As of any
-- iterator, its records come in the order of the row.
pub record GivesNext (before : Records) (piece : Option Piece) (after : Records) : Type 0 where
  pub value : following piece after.rest.now ≡ next_record before.rest.now
  pub kept : IfNone piece (after.rest.now ≡ before.rest.now)
  pub in_order : YieldsFirstBy extent (λ (records : Records). row records.rest.now) before piece after

abbrev pub first : Option Split → Next
first None = finished
first (Some s) = found (extent s.piece) s.rest.now
