use Rattle.step_index.proofs.Finding.{none_found}
use Rattle.step_index.proofs.found.FoundSteps.new.Goals as goal

pub returns-clause-found : goal.returns-clause-found
returns-clause-found c rs from = none_found rs from _ c.new.ensures.items c.new-2.ensures (c.new-3.ensures.due rs from) c.new-3.ensures.none
