use Rattle.std.proofs.Common.{◌≡◌, ◌+◌, min, length, ap, ◌∙◌, rules, arith}
use Rattle.std.proofs.lemmas.Iterator.{YieldsList-from_slice}
use Rattle.std.proofs.lemmas.Iterator.Consumers.{fold_from_yields_List}
use Rattle.queues.specs.Lines.{sum_to}
use Rattle.queues.specs.Held.{queue_of}
use Rattle.queues.proofs.EmptyLaws.{ticks-together, ticks_fit_all, ticks_added}
use Rattle.queues.proofs.queues_of.Queues.waiting.Goals as goal

pub returns : goal.returns
returns c cells lines held =
    let q = c.args.self.now in
    let added : c.fold.result ≡ min (0 + sum_to (length q.classes) (λ d. (queue_of q d).ticks)) 18446744073709551615 =
    fold_from_yields_List _ (λ n x. min (n + x.ticks) 18446744073709551615) 0 c.fold.result c.fold.ensures.ran (YieldsList-from_slice q.classes c.iter.ensures.rest) (λ a x b r called. search rules)
    ∙ ticks_added q.classes 0 (omega arith) in
    let eight : length q.classes ≡ 8 = omega arith in
    omega (arith, added, ap (λ n. sum_to n (λ d. (queue_of q d).ticks)) eight, ticks-together q cells lines held, ticks_fit_all q cells lines held)
