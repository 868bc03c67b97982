-- Which kinds of records are known where a program stands. Assumes nothing.
use Rattle.std.specs.Prelude.{ℕ, Bool, true, false, if◌then◌else◌, List, Some, None, Option}
use Rattle.records.specs.declared.stage.Program.{Program}
use Rattle.records.specs.declared.stage.Program.TheVariants.{Admit, Ports, Evening}
use Rattle.records.specs.declared.stage.Stage.{Stage}
use Rattle.records.specs.declared.stage.Stage.TheVariants.{NoSwitch, NoNet, Still, Running}
use Rattle.record_bytes.specs.Kinds.{kind_in}
use Rattle.record_bytes.specs.declared.kind.Kind.{Kind}
use Rattle.record_bytes.specs.declared.kind.Kind.TheVariants.{Flow, Net, Packet, Tick, Switch}

-- `admit` only plans; the others play
abbrev pub plays : Program → Bool
plays Admit = false
plays Ports = true
plays Evening = true

-- A switch only where there is none, a net only where there is none, and flows only while the net stands still. Packets
-- and ticks come to a net, if the program plays.
abbrev pub is_known : Program → Stage → Kind → Bool
is_known program NoSwitch Switch = true
is_known program NoNet Net = true
is_known program Still Flow = true
is_known program Still Packet = plays program
is_known program Still Tick = plays program
is_known program Running Packet = plays program
is_known program Running Tick = plays program
is_known program _ _ = false

-- the kind, if it is known
abbrev pub known : Program → Stage → Option Kind → Option Kind
known program stage None = None
known program stage (Some kind) = if is_known program stage kind then Some kind else None

abbrev pub kind_of : Program → Stage → List ℕ → Option Kind
kind_of program stage bs = known program stage (kind_in bs)
