use Rattle.std.proofs.Common.{◌≡◌, ◌≤◌, ◌+◌, drop}
use Rattle.branch_tree.specs.Leading.{failures}
use Rattle.branch_tree.proofs.counts.failures.Given as goal

-- of those gone by so many have failed
abbrev pub invariant-loop-kid : goal.invariant-loop-kid
invariant-loop-kid l = (l.failed ≤ l.kid-index) × (l.failed + failures (drop l.kid-index l.kids) ≡ failures l.kids)
