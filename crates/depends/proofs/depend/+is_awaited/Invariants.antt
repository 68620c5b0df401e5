use Rattle.std.proofs.Common.{length}
use Rattle.depends.proofs.depend.+is_awaited.Given as goal

abbrev pub decreases-is_awaited : goal.decreases-is_awaited
decreases-is_awaited l = length l.branch.now
