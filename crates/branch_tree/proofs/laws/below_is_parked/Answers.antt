use Rattle.branch_tree.proofs.Below.{below_is_parked}
use Rattle.branch_tree.proofs.laws.below_is_parked.Goals as goal

pub returns : goal.returns
returns c = below_is_parked
