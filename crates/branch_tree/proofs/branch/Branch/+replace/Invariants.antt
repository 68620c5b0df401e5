use Rattle.std.proofs.Common.{length}
use Rattle.branch_tree.proofs.branch.Branch.+replace.Given as goal

abbrev pub decreases-replace : goal.decreases-replace
decreases-replace l = length l.path.now
