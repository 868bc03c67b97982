use Rattle.std.proofs.Common.{◌+◌, max, ◌∙◌, rules, tests}
use Rattle.std.proofs.lemmas.Iterator.{YieldsList-from_slice, YieldsList-from_map}
use Rattle.std.proofs.lemmas.Iterator.Consumers.{fold_from_yields_List}
use Rattle.flows.proofs.NetLaws.{needed_folds}
use Rattle.flows.proofs.read_net.switches_needed.Goals as goal

pub returns : goal.returns
returns c =
    fold_from_yields_List _ max c.args.least c.fold.result c.fold.ensures.ran
    (YieldsList-from_map _ (λ port. max port.switch port.ends + 1) (YieldsList-from_slice c.args.ports.now (cc (c.iter.ensures.rest, c.map.ensures.source)))
    c.map.ensures.closure (λ x r q k. search (rules, tests)))
    (λ a x b q k. search (rules, tests))
    ∙ needed_folds c.args.least c.args.ports.now
