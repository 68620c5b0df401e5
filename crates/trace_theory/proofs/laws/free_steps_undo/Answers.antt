use Rattle.trace_theory.proofs.Commuting as law
use Rattle.trace_theory.proofs.laws.free_steps_undo.Goals as goal

pub returns : goal.returns
returns g c = λ m base lawful. law.free_steps_undo m base lawful
