use Rattle.trace_theory.proofs.Arranged as law
use Rattle.trace_theory.proofs.laws.linearizations_agree.Goals as goal

pub returns : goal.returns
returns g c = λ m base lawful names. law.linearizations_agree m base names lawful
