-- The lines that are printed, byte by byte. Assumes nothing.
use Rattle.std.specs.Prelude.{ℕ, ◌-◌, List, [], ◌∷◌, ◌++◌, length, drop, codes, decimal, slice_index}
use Rattle.record_bytes.specs.Texts.{fault_text}
use Rattle.admission.specs.Texts.{refusal_text}
use Rattle.admission.specs.Dues.{DuesModel}
use Rattle.script.specs.declared.line.Name.{Name}
use Rattle.script.specs.declared.line.Name.TheVariants as names
use Rattle.script.specs.declared.line.Cause.{Cause}
use Rattle.script.specs.declared.line.Cause.TheVariants as causes
use Rattle.script.specs.declared.line.Line.{Line}
use Rattle.script.specs.declared.line.Line.TheVariants as lines

-- what a refused record is called
abbrev pub name_text : Name → List ℕ
name_text (names.Flow number) = codes "flow " ++ decimal number
name_text names.Net = codes "net"
name_text (names.Record number) = codes "record " ++ decimal number

-- the number of each cause, and behind it where the fault is, what fails, or whose packet it was
abbrev pub cause_text : Cause → List ℕ
cause_text (causes.Fault fault) = fault_text fault
cause_text (causes.Admission refusal) = refusal_text refusal
cause_text (causes.Packet flow) = codes "8: flow " ++ decimal flow
cause_text causes.Clock = codes "10"
cause_text causes.Memories = codes "11"

-- what is due up to a port, behind a separator
abbrev pub port_text : List ℕ → ℕ → ℕ → List ℕ
port_text separator port due = separator ++ (codes " port " ++ (decimal port ++ (codes " " ++ decimal due)))

-- and up to each port of a road, with commas between
unfoldable pub ports_text : List ℕ → List ℕ → List ℕ → List ℕ
ports_text separator [] ticks = []
ports_text separator (p ∷ ps) ticks = port_text separator p (slice_index ticks 0) ++ ports_text (codes ",") ps (drop 1 ticks)

-- an admitted flow: what it is due over its whole road
abbrev pub due_text : ℕ → ℕ → List ℕ
due_text number due = codes "flow " ++ (decimal number ++ (codes ": due " ++ decimal due))

-- and port by port
abbrev pub dues_text : ℕ → DuesModel → List ℕ
dues_text number d = due_text number (slice_index d.ticks (length d.road - 1)) ++ ports_text (codes ":") d.road d.ticks

-- Lines that can be said at once. What an admitted flow is due is known once all flows are, so it is not among them.
abbrev pub line_text : Line → List ℕ
line_text (lines.Net ports switches) = codes "net: " ++ (decimal ports ++ (codes " ports, " ++ (decimal switches ++ codes " switches")))
line_text (lines.Admitted number) = []
line_text (lines.Refused name cause) = name_text name ++ (codes ": refused " ++ cause_text cause)
line_text (lines.Clock tick) = codes "clock " ++ decimal tick
line_text (lines.Counts no_flow others) =
    codes "refused: " ++ (decimal no_flow ++ (codes " packets of no flow, " ++ (decimal others ++ codes " other records")))
