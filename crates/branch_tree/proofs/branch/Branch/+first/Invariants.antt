use Rattle.std.proofs.Common.{◌≤◌, Bool, None, ◌+◌, ◌*◌, length}
use Rattle.std.specs.BTreeSet.{contains}
use Rattle.step_names.specs.Order.{thread_cmp}
use Rattle.branch_tree.specs.First.{NoneBeforePath}
use Rattle.branch_tree.specs.Tree.{frame_at}
use Rattle.branch_tree.proofs.FirstOf.{IsFirstOf}
use Rattle.branch_tree.proofs.branch.Branch.+first.Given as goal

abbrev pub decreases-first_ready : goal.decreases-first_ready
decreases-first_ready l = 3 * length l.self.now + 2

abbrev pub decreases-first_at_fork : goal.decreases-first_at_fork
decreases-first_at_fork l = 3 * length l.self.now + 1

abbrev pub decreases-first_as_branch : goal.decreases-first_as_branch
decreases-first_as_branch l = 3 * length l.self.now + 3

abbrev pub invariant-first_at_fork-loop-index : goal.invariant-first_at_fork-loop-index
invariant-first_at_fork-loop-index l = record {
  past : l.self-inside.counts.leading ≤ l.index;
  first : (begins : Bool) → NoneBeforePath begins (frame_at l.self) l.name (contains thread_cmp l.passed) l.from
      → IsFirstOf begins l.self-inside.frame l.self-inside.kids.items l.name (contains thread_cmp l.passed) l.index None;
}
