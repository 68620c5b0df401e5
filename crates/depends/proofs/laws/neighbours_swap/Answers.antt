use Rattle.trace_theory.proofs.Commuting as law
use Rattle.depends.specs.Instance.{steps}
use Rattle.depends.proofs.Reversible.{steps_are_reversible}
use Rattle.depends.proofs.laws.neighbours_swap.Goals as goal

pub returns : goal.returns
returns c = λ s base from. law.neighbours_swap (steps s) base (steps_are_reversible s base from)
