use Rattle.branch_tree.proofs.Leaves.{one_more, one_more_tree}
use Rattle.branch_tree.proofs.branch.Branch.leaves.Goals as goal

pub loop-frame-preserved : goal.loop-frame-preserved
loop-frame-preserved c = record {
  rows = one_more c.loop-frame.kids.items c.push.new.self.items c.loop-frame.yielded c.new.result c.in-Some.frame c.in_ok-push.ensures.items c.loop-frame.invariant.rows c.new.ensures.rows;
  trees = one_more_tree c.loop-frame.kids.items c.push.new.self.items c.new.result c.in_ok-push.ensures.items c.loop-frame.invariant.trees c.new.ensures.tree;
}
