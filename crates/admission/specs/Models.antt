-- What the values of the code stand for. Assumes nothing.
use Rattle.flows.specs.Models.{flow_of}
use Rattle.admission.specs.declared.refusal.Numbered.{Numbered}
use Rattle.admission.specs.Tests.{NumberedModel}

abbrev pub numbered_model : Numbered → NumberedModel
numbered_model n = record { number = n.number; flow = flow_of n.flow }
