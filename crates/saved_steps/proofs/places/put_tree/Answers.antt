use Rattle.std.proofs.Common.{rules, Some}
use Rattle.saved_steps.proofs.Trees.{put}
use Rattle.saved_steps.proofs.places.put_tree.Goals as goal

pub returns : goal.returns
returns c = put c.args.trees.now (c.get_mut.follows.lender (Some c.args.tree)) c.args.exec.now (Some c.args.tree) ((c.get_mut.follows.holds (Some c.args.tree)).3 (search rules))
