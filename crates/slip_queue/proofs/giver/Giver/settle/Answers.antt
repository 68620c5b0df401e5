use Rattle.slip_queue.proofs.Keeps.{learns}
use Rattle.slip_queue.proofs.giver.Giver.settle.Goals as goal

pub learn_as-requires-clause-rule : goal.learn_as-requires-clause-rule
learn_as-requires-clause-rule g c = learns _ _ c.requires.whole
