-- The first flow that is late. Assumes nothing.
use Rattle.std.proofs.Common.{◌≡◌, ℕ, Bool, true, false, cond, List, [], ◌∷◌, map, Some, refl}
use Rattle.std.specs.List.{find}
use Rattle.std.specs.Option.{option_map}
use Rattle.flows.specs.Net.{NetModel}
use Rattle.flows.specs.Models.{flow_of}
use Rattle.promises.specs.Loads.{LoadModel}
use Rattle.admission.specs.declared.refusal.Numbered.{Numbered}
use Rattle.admission.specs.declared.refusal.Refusal.{Refusal}
use Rattle.admission.specs.Models.{numbered_model}
use Rattle.admission.specs.Tests.{is_late, first_late}

-- what a search through flows finds, by what is made of its number
pub late_find : (net : NetModel) (loads : List LoadModel) (v : ℕ → Refusal) (ns : List Numbered) →
    option_map (λ (n : Numbered). v n.number) (find (λ (n : Numbered). is_late net loads (flow_of n.flow)) ns) ≡
    option_map v (first_late net loads (map numbered_model ns))
unfolding first_late
late_find net loads v [] = refl
late_find net loads v (n ∷ ns) = by (is_late net loads (flow_of n.flow)) (late_find net loads v ns)
  where
    by : (b : Bool) →
        option_map (λ (m : Numbered). v m.number) (find (λ (m : Numbered). is_late net loads (flow_of m.flow)) ns) ≡
        option_map v (first_late net loads (map numbered_model ns)) →
        option_map (λ (m : Numbered). v m.number) (cond b (Some n) (find (λ (m : Numbered). is_late net loads (flow_of m.flow)) ns)) ≡
        option_map v (cond b (Some n.number) (first_late net loads (map numbered_model ns)))
    by true more = refl
    by false more = more
