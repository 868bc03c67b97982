use Rattle.std.proofs.Common.{arith}
use Rattle.queues.specs.Held.{no_queue}
use Rattle.queues.proofs.EmptyLaws.{unused_holds}
use Rattle.queues.proofs.queues_of.Queues.empty.Goals as goal

pub returns : goal.returns
returns c =
    let unused = c.default.ensures.0.at in
    let count = c.link_all-count.ensures in
    unused_holds _ c.link_all-count.new.cells (λ d h. (unused d no_queue h).1.1.0) (λ d h. (unused d no_queue h).1.1.1)
    (omega arith) (omega (arith, count.counted)) (λ k h. count.linked k (omega arith))
