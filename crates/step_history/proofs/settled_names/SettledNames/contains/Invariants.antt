use Rattle.std.proofs.Common.{length}
use Rattle.std.specs.Ordering.{eq_by_cmp}
use Rattle.step_names.specs.Order.{step_cmp}
use Rattle.step_history.specs.SettledNames.{bucket}
use Rattle.step_history.proofs.NamesClassed.{IsPassed, ahead}
use Rattle.step_history.proofs.settled_names.SettledNames.contains.Given as goal

abbrev pub invariant-loop-next : goal.invariant-loop-next
invariant-loop-next l = IsPassed l.self-inside.classes (bucket l.name) (λ n. eq_by_cmp step_cmp n l.name) l.self-inside.names.items l.next

abbrev pub decreases-loop-next : goal.decreases-loop-next
decreases-loop-next l = ahead (length l.self-inside.names.items) l.next
