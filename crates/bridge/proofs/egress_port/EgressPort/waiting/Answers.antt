use Rattle.std.proofs.Common.{◌+◌, min, ap, ◌∙◌, rules, arith}
use Rattle.std.specs.List.{sum_by}
use Rattle.std.proofs.lemmas.Iterator.{YieldsList-from_slice}
use Rattle.std.proofs.lemmas.Iterator.Consumers.{fold_from_yields_List}
use Rattle.bridge.specs.Held.{inside_ticks}
use Rattle.bridge.proofs.CountLaws.{counted}
use Rattle.bridge.proofs.egress_port.EgressPort.waiting.Goals as goal

pub returns : goal.returns
returns c cells lines held =
    fold_from_yields_List _ (λ n x. min (n + inside_ticks x) 18446744073709551615) c.waiting.result c.fold.result c.fold.ensures.ran
    (YieldsList-from_slice c.args.self.now.inside.items (c.iter.ensures.rest ∙ c.deref.ensures.value)) (λ a x b r called. search rules)
    ∙ counted inside_ticks c.args.self.now.inside.items c.waiting.result (omega arith)
    ∙ ap (λ n. min (n + sum_by inside_ticks c.args.self.now.inside.items) 18446744073709551615) (c.waiting.ensures cells lines held)
