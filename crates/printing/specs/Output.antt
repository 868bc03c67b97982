-- All that a program prints for a whole input. Assumes nothing.
use Rattle.std.specs.Prelude.{ℕ, List, [], ◌∷◌, ◌++◌, Some, None, Option}
use Rattle.record_bytes.specs.Row.{Extent, row}
use Rattle.records.specs.declared.stage.Program.{Program}
use Rattle.admission.specs.Plans.{PlanModel}
use Rattle.admission.specs.Dues.{DuesModel, dues_numbered}
use Rattle.script.specs.declared.line.Line.{Line}
use Rattle.script.specs.declared.line.Line.TheVariants as lines
use Rattle.script.specs.Lines.{line_text, dues_text}
use Rattle.script.specs.Session.{Standing, beginning, step, after_all, closing}

-- the line of an admitted flow, where it has dues
abbrev pub printed_dues : ℕ → Option DuesModel → List ℕ
printed_dues number None = []
printed_dues number (Some d) = dues_text number d ++ 10 ∷ []

-- a line and its end, with the dues of a plan
abbrev pub printed : PlanModel → Line → List ℕ
printed plan (lines.Net ports switches) = line_text (lines.Net ports switches) ++ 10 ∷ []
printed plan (lines.Admitted number) = printed_dues number (dues_numbered plan number)
printed plan (lines.Refused name cause) = line_text (lines.Refused name cause) ++ 10 ∷ []
printed plan (lines.Clock tick) = line_text (lines.Clock tick) ++ 10 ∷ []
printed plan (lines.Counts no_flow others) = line_text (lines.Counts no_flow others) ++ 10 ∷ []

-- nothing is printed where nothing is said
abbrev pub printed_if_said : PlanModel → Option Line → List ℕ
printed_if_said plan None = []
printed_if_said plan (Some l) = printed plan l

unfoldable pub printed_all : PlanModel → List Line → List ℕ
printed_all plan [] = []
printed_all plan (l ∷ ls) = printed plan l ++ printed_all plan ls

-- what is still to be printed where the program stands and these records are left: the line of each, if it has one, and what is said at the end
unfoldable pub output_from : PlanModel → Standing → List Extent → List ℕ
output_from plan s [] = printed_all plan (closing s)
output_from plan s (e ∷ es) = printed_if_said plan (step s e).0 ++ output_from plan (step s e).1 es

-- the plan as it is once all flows of an input have been read
abbrev pub last_plan : Program → List ℕ → PlanModel
last_plan program input = (after_all (beginning program) (row input)).plan

-- all that a program prints for an input
abbrev pub output : Program → List ℕ → List ℕ
output program input = output_from (last_plan program input) (beginning program) (row input)
