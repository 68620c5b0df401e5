use Rattle.std.specs.String.{string_bytes}
use Rattle.saved_steps.proofs.Earliest.{IsGone, of}
use Rattle.saved_steps.proofs.first.first_with_a_move.Given as goal

-- no thread of an execution before those that are left has a move, but for those of the one that is awake
abbrev pub invariant-loop-exec : goal.invariant-loop-exec
invariant-loop-exec l = IsGone l.trees (of (string_bytes l.quiet.awake)) l.exec-iterator
