use Rattle.slip_queue.proofs.Keeps.{merges}
use Rattle.slip_queue.proofs.giver.Giver.absorb.Goals as goal

pub absorb-requires-clause-rule : goal.absorb-requires-clause-rule
absorb-requires-clause-rule g c = merges _ _ _ _ c.requires.giver.some_part
