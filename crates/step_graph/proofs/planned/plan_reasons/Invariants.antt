use Rattle.std.proofs.Common.{All}
use Rattle.step_graph.specs.Causes.{IsReason}
use Rattle.step_graph.proofs.planned.plan_reasons.Given as goal

-- what was found so far are reasons
abbrev pub invariant-loop-place : goal.invariant-loop-place
invariant-loop-place l = All (IsReason l.records.items) l.found.items
