use Rattle.std.proofs.Common.{sym}
use Rattle.branch_tree.specs.Tree.{frame_at}
use Rattle.saved_steps.proofs.Earliest.{ended_free}
use Rattle.saved_steps.proofs.first.has_ended.Goals as goal

pub returns-in-Done : goal.returns-in-Done
returns-in-Done c = λ base passed. ended_free (frame_at c.args.tree.now) c.in-Some.frame.now base passed c.below_is_parked.ensures c.find.ensures.tree (sym c.in-Some.ensures.value) c.in-Done.is

pub returns-in-Done-2 : goal.returns-in-Done-2
returns-in-Done-2 c = λ base passed. ended_free (frame_at c.args.tree.now) c.in-Some.frame.now base passed c.below_is_parked.ensures c.find.ensures.tree (sym c.in-Some.ensures.value) c.in-Done.is
