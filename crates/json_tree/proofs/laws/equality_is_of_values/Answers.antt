use Rattle.json_tree.proofs.Same.{eq_both}
use Rattle.json_tree.proofs.laws.equality_is_of_values.Goals as goal

pub returns : goal.returns
returns c = eq_both
