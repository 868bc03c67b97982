use Rattle.std.proofs.Common.{length}
use Rattle.record_bytes.specs.Reading.{several}
use Rattle.record_bytes.specs.Answers.{cursor}
use Rattle.record_bytes.proofs.Several.{Reads}
use Rattle.flows.proofs.read_net.read_all.Given as goal

abbrev pub invariant-loop-place : goal.invariant-loop-place
invariant-loop-place g l =
    Reads (length l.fn.places) l.place-index g.T.Part.from l.place-items (cursor l.reader) (several (length l.fn.places) g.T.Part.from (cursor l.initial.reader))
