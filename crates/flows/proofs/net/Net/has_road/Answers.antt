use Rattle.flows.proofs.LeadLaws.{leads_exactly}
use Rattle.flows.proofs.net.Net.has_road.Goals as goal

pub returns-then-not-step_fits-clause-law : goal.returns-then-not-step_fits-clause-law
returns-then-not-step_fits-clause-law c = leads_exactly

pub returns-clause-law : goal.returns-clause-law
returns-clause-law c = leads_exactly
