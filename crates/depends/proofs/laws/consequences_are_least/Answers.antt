use Rattle.trace_theory.proofs.Least.{least_consequences}
use Rattle.depends.specs.Instance.{steps}
use Rattle.depends.proofs.Named.{steps_have_names}
use Rattle.depends.proofs.laws.consequences_are_least.Goals as goal

pub returns : goal.returns
returns c = λ s base from. least_consequences (steps s) base (steps_have_names s base from)
