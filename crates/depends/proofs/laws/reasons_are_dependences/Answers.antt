use Rattle.depends.proofs.Reasoned as law
use Rattle.depends.proofs.laws.reasons_are_dependences.Goals as goal

pub returns : goal.returns
returns c = law.reasons_are_dependences
