-- Laws of admission. Assumes nothing.
use Rattle.admission.specs.Rules.{Exact, NamesFirst, JudgedByRules}
use Rattle.admission.specs.Examples.{WorkedTable}

pub record AdmissionLaws : Type 0 where
  pub exact : Exact
  pub first : NamesFirst
  pub judged : JudgedByRules
  pub examples : WorkedTable
