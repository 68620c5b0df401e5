use Rattle.trace_theory.proofs.Held.{held_is_left}
use Rattle.depends.specs.Instance.{steps}
use Rattle.depends.proofs.Reversible.{steps_are_reversible}
use Rattle.depends.proofs.Named.{steps_have_names}
use Rattle.depends.proofs.laws.held_consequences_are_left.Goals as goal

pub returns : goal.returns
returns c = λ s base from. held_is_left (steps s) base (steps_have_names s base from) (steps_are_reversible s base from)
