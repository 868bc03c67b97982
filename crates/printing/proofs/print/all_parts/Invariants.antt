use Rattle.std.proofs.Common.{◌≡◌, ◌++◌, string_bytes}
use Rattle.printing.specs.Parts.{parts_left, still_to_come}
use Rattle.printing.proofs.print.all_parts.Given as goal

abbrev pub invariant-loop-next : goal.invariant-loop-next
invariant-loop-next l = string_bytes l.text ++ still_to_come l.next ≡ still_to_come l.initial.next

abbrev pub decreases-loop-next : goal.decreases-loop-next
decreases-loop-next l = parts_left l.next
