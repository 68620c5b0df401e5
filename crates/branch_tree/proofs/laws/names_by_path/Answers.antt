use Rattle.branch_tree.proofs.Names.{names_by_path}
use Rattle.branch_tree.proofs.laws.names_by_path.Goals as goal

pub returns : goal.returns
returns c = names_by_path
