use Rattle.std.proofs.Common.{sym, subst}
use Rattle.queues.specs.Held.{Holds}
use Rattle.queues.proofs.TakeLaws.{nothing-taken}
use Rattle.queues.proofs.queues_of.Queues.take.Goals as goal

pub returns-in_default-clause-first : goal.returns-in_default-clause-first
returns-in_default-clause-first c lines held =
    let none = nothing-taken c.args.self.now c.args.cells.now lines held c.in_default.ensures.class in
    (sym none.0, subst (Holds c.args.self.now c.args.cells.now) (sym none.1) held)
