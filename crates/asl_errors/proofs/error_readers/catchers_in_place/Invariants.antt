use Rattle.std.proofs.Common.{◌≡◌, drop, false}
use Rattle.asl_errors.specs.ErrorFields.{in_place, catcher_names}
use Rattle.asl_errors.proofs.error_readers.catchers_in_place.Given as goal

-- what is left is in its place where all are
abbrev pub invariant-loop-catcher : goal.invariant-loop-catcher
invariant-loop-catcher l = in_place l.ended (catcher_names (drop l.catcher-index l.catcher-items)) ≡ in_place false (catcher_names l.catcher-items)
