use Rattle.trace_theory.proofs.Orders as law
use Rattle.trace_theory.proofs.laws.orders_undo.Goals as goal

pub returns : goal.returns
returns g c = λ m base lawful names. law.orders_undo m base names lawful
