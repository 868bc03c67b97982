use Rattle.std.proofs.Common.{◌≡◌, ℕ, ◌<◌, None}
use Rattle.queues.specs.Held.{queue_of}
use Rattle.queues.proofs.queues_of.Queues.lowest.Given as goal

abbrev pub invariant-found : goal.invariant-found
invariant-found l = record { none : l.lowest ≡ None; below : (k : ℕ) → k < l.class → (queue_of l.self k).count ≡ 0 }
