use Rattle.std.proofs.Common.{sym, ap, ◌∙◌}
use Rattle.asl_tree.specs.Complete.{state_of}
use Rattle.asl_tree.proofs.Trees.{state_of-states_of}
use Rattle.asl_tree.proofs.state.States.get.Goals as goal

pub returns : goal.returns
returns c = c.get.ensures.value ∙ sym (state_of-states_of c.args.name.now c.self.inside.inner.entries) ∙ ap (state_of c.args.name.now) c.self.view_is
