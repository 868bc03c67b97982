-- What the programs are called. Assumes nothing.
use Rattle.std.specs.Prelude.{◌≡◌, ◌↔◌, ℕ, List, Result, Ok, codes}
use Rattle.records.specs.declared.stage.Program.{Program}
use Rattle.records.specs.declared.stage.Program.TheVariants as programs
use Rattle.records.specs.declared.names.UnknownProgram.{UnknownProgram}

abbrev pub name_of : Program → List ℕ
name_of programs.Admit = codes "admit"
name_of programs.Ports = codes "ports"
name_of programs.Evening = codes "evening"

-- a program is found by exactly its name, and nothing by any other
abbrev pub MeansProgram : List ℕ → Result Program UnknownProgram → Type 0
MeansProgram name found = (program : Program) → (found ≡ Ok program) ↔ (name ≡ name_of program)
