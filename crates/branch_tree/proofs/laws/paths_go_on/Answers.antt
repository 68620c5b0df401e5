use Rattle.branch_tree.proofs.Grafts.{rest_is_exact}
use Rattle.branch_tree.proofs.laws.paths_go_on.Goals as goal

pub returns : goal.returns
returns c = rest_is_exact
