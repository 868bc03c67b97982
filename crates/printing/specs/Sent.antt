-- What a writer has of a text that it was sent. Assumes nothing.
use Rattle.std.specs.Prelude.{ℕ, List, Option, IfSome}
use Rattle.std.specs.Io.{StartsWith}
use Rattle.std.specs.Io.KnownBytes.{Appends}
use Rattle.records.specs.declared.stage.Program.{Program}
use Rattle.printing.specs.Output.{output}

-- a beginning of the text was written, or all of it, and nothing else
abbrev pub Begun : Option (List ℕ) → Option (List ℕ) → List ℕ → Type 0
Begun before now text = (sent : List ℕ) × StartsWith text sent × Appends before now sent

-- where it is known what there was to read, what the program prints for it was written, and nothing else
abbrev pub Prints : Program → Option (List ℕ) → Option (List ℕ) → Option (List ℕ) → Type 0
Prints program to_read before now = IfSome to_read (λ input. Appends before now (output program input))
