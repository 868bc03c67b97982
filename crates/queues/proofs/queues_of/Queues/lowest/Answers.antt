use Rattle.queues.proofs.QueueLaws.{queue_laws}
use Rattle.queues.proofs.queues_of.Queues.lowest.Goals as goal

pub returns-after-found-clause-laws : goal.returns-after-found-clause-laws
returns-after-found-clause-laws c = queue_laws

pub returns-then-queue-gt0-clause-laws : goal.returns-then-queue-gt0-clause-laws
returns-then-queue-gt0-clause-laws c = queue_laws
