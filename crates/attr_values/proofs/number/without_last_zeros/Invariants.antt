use Rattle.std.proofs.Common.{◌≡◌, ◌++◌, ℕ, replicate, length}
use Rattle.attr_values.proofs.number.without_last_zeros.Given as goal

abbrev pub invariant-loop-kept : goal.invariant-loop-kept
invariant-loop-kept l = (k : ℕ) × (l.digits ≡ l.kept ++ replicate k 48)

abbrev pub decreases-loop-kept : goal.decreases-loop-kept
decreases-loop-kept l = length l.kept
