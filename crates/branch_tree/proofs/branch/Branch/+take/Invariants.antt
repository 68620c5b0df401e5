use Rattle.std.proofs.Common.{length}
use Rattle.branch_tree.proofs.branch.Branch.+take.Given as goal

abbrev pub decreases-take : goal.decreases-take
decreases-take l = length l.path.now
