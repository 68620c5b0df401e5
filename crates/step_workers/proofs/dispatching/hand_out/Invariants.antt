use Rattle.std.proofs.Common.{◌-◌, ◌≤◌}
use Rattle.step_workers.specs.Work.{PassGoesOn, KeepsGiver}
use Rattle.step_workers.proofs.dispatching.hand_out.Given as goal

abbrev pub invariant-loop : goal.invariant-loop
invariant-loop g l = KeepsGiver (l.fn.limits.tickets - l.left) l.board.slips l.fn.giver l.giver × (l.left ≤ l.fn.limits.tickets) × PassGoesOn 0 l.fn.pass l.pass
