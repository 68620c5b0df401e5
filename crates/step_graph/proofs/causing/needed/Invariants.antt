use Rattle.std.proofs.Common.{◌≤◌, length}
use Rattle.step_graph.proofs.Inverted.{ArePassed}
use Rattle.step_graph.proofs.causing.needed.Given as goal

abbrev pub invariant-loop-left : goal.invariant-loop-left
invariant-loop-left l = record {
  within : l.left ≤ length l.found;
  passed : ArePassed l.records.items l.place l.found l.left;
}

abbrev pub decreases-loop-left : goal.decreases-loop-left
decreases-loop-left l = l.left
