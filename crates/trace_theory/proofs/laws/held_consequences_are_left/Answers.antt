use Rattle.trace_theory.proofs.Held.{held_is_left}
use Rattle.trace_theory.proofs.laws.held_consequences_are_left.Goals as goal

pub returns : goal.returns
returns g c = λ m base lawful names. held_is_left m base names lawful
