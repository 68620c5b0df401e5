use Rattle.std.proofs.Common.{◌≡◌, ◌<◌, ◌≤◌, ℕ, true, length}
use Rattle.branch_tree.specs.Leading.{done_at}
use Rattle.branch_tree.proofs.counts.leading_from.Given as goal

-- those gone by are done
abbrev pub invariant-loop-index : goal.invariant-loop-index
invariant-loop-index l = (l.index ≤ length l.kids) × ((j : ℕ) → j < l.index → done_at l.kids j ≡ true)
