use Rattle.saved_steps.proofs.Trees.{out}
use Rattle.saved_steps.proofs.places.remove_tree.Goals as goal

pub returns : goal.returns
returns c = out c.args.trees.now c.remove.new.self c.args.exec.now c.remove.ensures.updates
