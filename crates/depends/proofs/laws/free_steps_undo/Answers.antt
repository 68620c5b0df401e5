use Rattle.trace_theory.proofs.Commuting as law
use Rattle.depends.specs.Instance.{steps}
use Rattle.depends.proofs.Reversible.{steps_are_reversible}
use Rattle.depends.proofs.laws.free_steps_undo.Goals as goal

pub returns : goal.returns
returns c = λ s base from. law.free_steps_undo (steps s) base (steps_are_reversible s base from)
