use Rattle.branch_tree.proofs.Grafts.{given_back}
use Rattle.branch_tree.proofs.laws.given_back.Goals as goal

pub returns : goal.returns
returns c = given_back
