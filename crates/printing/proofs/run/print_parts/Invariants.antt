use Rattle.std.proofs.Common.{ℕ, List, ◌≡◌, ◌++◌}
use Rattle.std.specs.Io.KnownBytes.{Appends}
use Rattle.printing.specs.Parts.{parts_left, still_to_come}
use Rattle.printing.proofs.run.print_parts.Given as goal

abbrev pub invariant-loop-next : goal.invariant-loop-next
invariant-loop-next g l = (sent : List ℕ) × (sent ++ still_to_come l.next ≡ still_to_come l.initial.next) × Appends (g.W.Write.contents l.initial.out) (g.W.Write.contents l.out) sent

abbrev pub decreases-loop-next : goal.decreases-loop-next
decreases-loop-next g l = parts_left l.next
