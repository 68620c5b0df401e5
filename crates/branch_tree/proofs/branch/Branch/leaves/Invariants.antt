use Rattle.std.proofs.Common.{◌≡◌, map}
use Rattle.std.specs.List.{All}
use Rattle.branch_tree.specs.FlatMap.{IsTree}
use Rattle.branch_tree.specs.Tree.{leaf, frame_at}
use Rattle.branch_tree.proofs.branch.Branch.leaves.Given as goal

abbrev pub invariant-loop-frame : goal.invariant-loop-frame
invariant-loop-frame l = record {
  rows : l.kids.items ≡ map leaf l.yielded;
  trees : All (λ kid. IsTree (frame_at kid)) l.kids.items;
}
