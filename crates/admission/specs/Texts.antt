-- How a refusal is printed. Assumes nothing.
use Rattle.std.specs.Prelude.{ℕ, List, ◌++◌, codes, decimal}
use Rattle.admission.specs.declared.refusal.Refusal.{Refusal}
use Rattle.admission.specs.declared.refusal.Refusal.TheVariants.{Road, Crowded, Promised, Late, Memory}

-- the number of each test, and what fails it
abbrev pub refusal_text : Refusal → List ℕ
refusal_text Road = codes "3"
refusal_text (Promised port) = codes "4: port " ++ decimal port
refusal_text (Late flow) = codes "5: flow " ++ decimal flow
refusal_text (Memory switch) = codes "6: switch " ++ decimal switch
refusal_text Crowded = codes "7"
