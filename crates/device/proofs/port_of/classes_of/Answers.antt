use Rattle.std.proofs.Common.{◌≡◌, map, vec_items, rules}
use Rattle.std.proofs.lemmas.Result.{IfOk-weaker}
use Rattle.admission.specs.declared.refusal.Numbered.{Numbered}
use Rattle.device.proofs.StartLaws.{classes_told}
use Rattle.device.proofs.port_of.classes_of.Goals as goal

pub returns : goal.returns
returns c =
    IfOk-weaker c.collect.result (λ v. vec_items v ≡ map (λ (n : Numbered). n.flow.class) (vec_items c.args.plan.now.flows)) _
    (λ v is. classes_told (vec_items c.args.plan.now.flows) (vec_items v) is) (search rules)
