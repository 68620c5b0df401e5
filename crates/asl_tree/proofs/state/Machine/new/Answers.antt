use Rattle.asl_tree.proofs.Inside.{complete_by}
use Rattle.asl_tree.proofs.state.Machine.new.Goals as goal

pub invariant_of-result : goal.invariant_of-result
invariant_of-result c = complete_by c.args.start c.args.states c.in-None.ensures
