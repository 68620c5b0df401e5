use Rattle.trace_theory.proofs.Least.{least_consequences}
use Rattle.trace_theory.proofs.laws.consequences_are_least.Goals as goal

pub returns : goal.returns
returns g c = λ m base names. least_consequences m base names
