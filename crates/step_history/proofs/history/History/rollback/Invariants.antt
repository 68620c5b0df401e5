use Rattle.std.proofs.Common.{drop}
use Rattle.step_history.proofs.Rolled.{RollsBack}
use Rattle.step_history.proofs.history.History.rollback.Given as goal

abbrev pub invariant-loop-place : goal.invariant-loop-place
invariant-loop-place l = RollsBack l.fn.self l.fn.plan l.self (drop l.place-index l.place-items)
