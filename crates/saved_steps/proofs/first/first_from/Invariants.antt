use Rattle.std.specs.BTreeSet.{contains}
use Rattle.step_names.specs.Order.{thread_cmp}
use Rattle.saved_steps.proofs.Earliest.{IsGone}
use Rattle.saved_steps.proofs.first.first_from.Given as goal

-- no thread of an execution before those that are left is free
abbrev pub invariant-loop-exec : goal.invariant-loop-exec
invariant-loop-exec l = IsGone l.trees (contains thread_cmp l.passed) l.exec-iterator
