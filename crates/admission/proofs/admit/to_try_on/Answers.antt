use Rattle.std.proofs.Common.{◌≡◌, [], true, box_value, ap, ◌∙◌, rules}
use Rattle.admission.specs.Sound.{keeps_demand}
use Rattle.admission.proofs.KeepLaws.{none_kept}
use Rattle.admission.proofs.admit.to_try_on.Goals as goal

pub returns-clause-value : goal.returns-clause-value
returns-clause-value c =
    let empty : keeps_demand (box_value c.in_ok-new.field-0) [] ≡ true =
    ap (λ d. keeps_demand d []) c.in_ok-new.ensures.ok ∙ none_kept c.none.result c.none.ensures.loads c.none.ensures.pairs in
    search (rules, empty, c.in_default.ensures)
