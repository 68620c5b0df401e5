use Rattle.trace_theory.proofs.Planned as law
use Rattle.trace_theory.proofs.laws.plans_are_reversible.Goals as goal

pub returns : goal.returns
returns g c = law.plans_are_reversible
