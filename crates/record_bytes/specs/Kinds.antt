-- What a record is by its first byte. Assumes nothing.
use Rattle.std.specs.Prelude.{◌≡◌, ℕ, if◌then◌else◌, List, [], ◌∷◌, ◌==◌, Some, None, Option, Result, MatchResult}
use Rattle.record_bytes.specs.declared.kind.Kind.{Kind}
use Rattle.record_bytes.specs.declared.kind.Kind.TheVariants.{Flow, Net, Packet, Tick, Switch}
use Rattle.record_bytes.specs.declared.kind.UnknownKind.{UnknownKind}

-- the byte that records of a kind begin with
abbrev pub byte_of : Kind → ℕ
byte_of Flow = 1
byte_of Net = 2
byte_of Packet = 3
byte_of Tick = 4
byte_of Switch = 5

-- the kind of records that begin with a byte
abbrev pub kind_of_byte : ℕ → Option Kind
kind_of_byte first =
    if first == 1 then Some Flow else
    if first == 2 then Some Net else
    if first == 3 then Some Packet else
    if first == 4 then Some Tick else
    if first == 5 then Some Switch else None

-- the result is the kind of records that begin with this byte, or an error with the byte, where there is none
abbrev pub Decodes : ℕ → Result Kind UnknownKind → Type 0
Decodes first r = MatchResult r (λ kind. kind_of_byte first ≡ Some kind) (λ e. (e.0 ≡ first) × (kind_of_byte first ≡ None))

-- a record with no bytes is of no kind
abbrev pub kind_in : List ℕ → Option Kind
kind_in [] = None
kind_in (first ∷ rest) = kind_of_byte first
