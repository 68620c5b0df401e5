use Rattle.std.proofs.Common.{refl}
use Rattle.step_index.proofs.Finding.{next_due}
use Rattle.step_index.proofs.found.FoundSteps.next_due.Goals as goal

pub returns-clause-next : goal.returns-clause-next
returns-clause-next c rs from found = next_due rs from c.args.self.now _ c.take_first.result found refl found.marked (c.take_first.ensures rs from found.due)
