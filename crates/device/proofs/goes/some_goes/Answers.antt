use Rattle.std.proofs.Common.{eqb, ◌&&◌, rules}
use Rattle.std.proofs.lemmas.Iterator.{YieldsList-from_slice}
use Rattle.std.proofs.lemmas.Iterator.Search.{any_from_yields_List}
use Rattle.flows.specs.Models.{flow_of}
use Rattle.promises.specs.Promises.{goes}
use Rattle.admission.specs.declared.refusal.Numbered.{Numbered}
use Rattle.device.proofs.StartLaws.{any_told}
use Rattle.device.proofs.goes.some_goes.Goals as goal

pub returns : goal.returns
returns c =
    any_told c.args.from c.args.to c.args.class c.args.flows.now _
    (any_from_yields_List (λ (n : Numbered). eqb n.flow.class c.args.class && goes c.args.from c.args.to (flow_of n.flow).road) _ _ _ c.any.ensures.ran
    (YieldsList-from_slice c.args.flows.now cc) (λ x b q k. search rules))
