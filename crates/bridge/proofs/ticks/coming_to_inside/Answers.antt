use Rattle.std.proofs.Common.{◌+◌, min, ◌∙◌, rules, arith}
use Rattle.std.proofs.lemmas.Iterator.{YieldsList-from_slice}
use Rattle.std.proofs.lemmas.Iterator.Consumers.{fold_from_yields_List}
use Rattle.bridge.specs.Held.{inside_coming}
use Rattle.bridge.proofs.CountLaws.{counted}
use Rattle.bridge.proofs.ticks.coming_to_inside.Goals as goal

pub returns : goal.returns
returns c =
    fold_from_yields_List _ (λ n x. min (n + inside_coming x) 18446744073709551615) 0 c.fold.result c.fold.ensures.ran (YieldsList-from_slice c.args.inside.now c.iter.ensures.rest) (λ a x b r called. search rules)
    ∙ counted inside_coming c.args.inside.now 0 (omega arith) ∙ omega arith
