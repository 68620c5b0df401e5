use Rattle.std.proofs.Common.{◌≡◌, drop, false}
use Rattle.asl_errors.specs.ErrorFields.{in_place, retrier_names}
use Rattle.asl_errors.proofs.error_readers.retriers_in_place.Given as goal

-- what is left is in its place where all are
abbrev pub invariant-loop-retrier : goal.invariant-loop-retrier
invariant-loop-retrier l = in_place l.ended (retrier_names (drop l.retrier-index l.retrier-items)) ≡ in_place false (retrier_names l.retrier-items)
