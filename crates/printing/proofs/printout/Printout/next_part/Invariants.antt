use Rattle.std.proofs.Common.{◌≡◌, ◌≤◌, ◌++◌, length, string_bytes}
use Rattle.printing.specs.Parts.{to_come}
use Rattle.printing.proofs.printout.Printout.next_part.Given as goal

abbrev pub invariant-loop-piece : goal.invariant-loop-piece
invariant-loop-piece l = (string_bytes l.text ++ to_come l.self ≡ to_come l.initial.self) × (length l.self.records.rest.now ≤ length l.initial.self.records.rest.now)

abbrev pub decreases-loop-piece : goal.decreases-loop-piece
decreases-loop-piece l = length l.self.records.rest.now
