use Rattle.trace_theory.proofs.Orders as law
use Rattle.depends.specs.Instance.{steps}
use Rattle.depends.proofs.Reversible.{steps_are_reversible}
use Rattle.depends.proofs.Named.{steps_have_names}
use Rattle.depends.proofs.laws.orders_undo.Goals as goal

pub returns : goal.returns
returns c = λ s base from. law.orders_undo (steps s) base (steps_have_names s base from) (steps_are_reversible s base from)
