use Rattle.depends.proofs.Consequences as law
use Rattle.depends.proofs.laws.plans_are_consequences.Goals as goal

pub returns : goal.returns
returns c = record { plan = law.plans_are_consequences; first = law.free_steps_have_no_dependent }
