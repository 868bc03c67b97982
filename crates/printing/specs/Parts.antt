-- What is still to come of a text that is printed in parts. Assumes nothing.
use Rattle.std.specs.Prelude.{◌≡◌, ℕ, ◌+◌, List, [], ◌++◌, length, Some, None, string_bytes, Option, MatchOption}
use Rattle.record_bytes.specs.Row.{row}
use Rattle.printing.specs.declared.printout.Printout.{Printout}
use Rattle.printing.specs.declared.printout.Part.{Part}
use Rattle.admission.specs.Plans.{plan_of}
use Rattle.script.specs.Models.{standing}
use Rattle.printing.specs.Output.{output_from}

abbrev pub to_come : Printout → List ℕ
to_come p = output_from (plan_of p.plan) (standing p.session) (row p.records.rest.now)

-- nothing, once the last part is there
abbrev pub still_to_come : Option Printout → List ℕ
still_to_come None = []
still_to_come (Some p) = to_come p

-- a part says the beginning of a text, and what is left says the rest of it
abbrev pub Told : Part → List ℕ → Type 0
Told part whole = MatchOption part.rest (string_bytes part.text ≡ whole) (λ p. string_bytes part.text ++ to_come p ≡ whole)

-- bytes that are still to be read, and one for the end
abbrev pub parts_left : Option Printout → ℕ
parts_left None = 0
parts_left (Some p) = length p.records.rest.now + 1
