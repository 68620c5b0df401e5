use Rattle.branch_tree.proofs.Grafts.{fork_taken_back}
use Rattle.branch_tree.proofs.laws.fork_taken_back.Goals as goal

pub returns : goal.returns
returns c = fork_taken_back
