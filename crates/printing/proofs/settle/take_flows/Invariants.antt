use Rattle.std.proofs.Common.{◌≡◌, length}
use Rattle.record_bytes.specs.Row.{row}
use Rattle.script.specs.Models.{standing}
use Rattle.script.specs.Session.{after_all}
use Rattle.printing.proofs.settle.take_flows.Given as goal

abbrev pub invariant-loop-piece : goal.invariant-loop-piece
invariant-loop-piece l = after_all (standing l.session) (row l.records.rest.now) ≡ after_all (standing l.initial.session) (row l.initial.records.rest.now)

abbrev pub decreases-loop-piece : goal.decreases-loop-piece
decreases-loop-piece l = length l.records.rest.now
