use Rattle.std.proofs.Common.{◌≡◌, ℕ, ◌+◌, ◌<◌, min}
use Rattle.queues.specs.Held.{next_at}
use Rattle.queues.proofs.empty.link_all.Given as goal

abbrev pub invariant-loop-cell : goal.invariant-loop-cell
invariant-loop-cell l =
    record { counted : l.count ≡ min l.cell-index 4294967295; linked : (k : ℕ) → k < l.count → next_at l.cells k ≡ k + 1 }
