use Rattle.trace_theory.proofs.Commuting as law
use Rattle.trace_theory.proofs.laws.neighbours_swap.Goals as goal

pub returns : goal.returns
returns g c = λ m base lawful. law.neighbours_swap m base lawful
