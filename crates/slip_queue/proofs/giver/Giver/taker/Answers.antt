use Rattle.slip_queue.proofs.Keeps.{forks}
use Rattle.slip_queue.proofs.giver.Giver.taker.Goals as goal

pub another-requires-clause-rule : goal.another-requires-clause-rule
another-requires-clause-rule g c = forks _ _ c.requires.part
