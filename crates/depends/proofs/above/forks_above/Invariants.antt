use Rattle.std.proofs.Common.{◌≡◌, ◌++◌, drop}
use Rattle.depends.specs.Above.{forks_above, forks_from}
use Rattle.depends.proofs.above.forks_above.Given as goal

-- the forks so far, and those above what is left of the path, are all
abbrev pub invariant-loop-branch : goal.invariant-loop-branch
invariant-loop-branch l = l.forks.items ++ forks_from l.over.exec l.over.path (drop l.branch-index l.branch-items) ≡ forks_above l.thread
