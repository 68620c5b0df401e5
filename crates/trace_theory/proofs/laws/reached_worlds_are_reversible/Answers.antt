use Rattle.trace_theory.proofs.Base.{reversible_from, names_from}
use Rattle.trace_theory.proofs.laws.reached_worlds_are_reversible.Goals as goal

pub returns : goal.returns
returns g c = record { lawful = reversible_from; names = names_from }
