use Rattle.asl_tree.specs.Same.{definition_exact}
use Rattle.asl_tree.proofs.laws.equality_is_of_machines.Goals as goal

pub returns : goal.returns
returns c = definition_exact
