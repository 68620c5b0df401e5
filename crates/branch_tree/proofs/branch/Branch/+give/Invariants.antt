use Rattle.std.proofs.Common.{length}
use Rattle.branch_tree.proofs.branch.Branch.+give.Given as goal

abbrev pub decreases-give : goal.decreases-give
decreases-give l = length l.path.now
