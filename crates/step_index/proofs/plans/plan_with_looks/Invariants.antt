use Rattle.std.proofs.Common.{ℕ, ◌+◌, ◌-◌, length}
use Rattle.step_index.proofs.Finding.{IsUpTo}
use Rattle.step_index.proofs.plans.plan_with_looks.Given as goal

-- up to a place all steps were found, and each due place is behind it
abbrev pub invariant-loop-place : goal.invariant-loop-place
invariant-loop-place l = (from : ℕ) × IsUpTo l.records l.at from l.found l.fn.looks.count l.looks.count

abbrev pub decreases-loop-place : goal.decreases-loop-place
decreases-loop-place l = (l.fn.looks.count + length l.records) - l.looks.count
