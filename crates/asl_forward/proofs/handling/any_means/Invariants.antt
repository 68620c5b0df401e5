use Rattle.std.proofs.Common.{◌≡◌, drop}
use Rattle.std.specs.List.{list_any}
use Rattle.asl_forward.specs.Handling.{means}
use Rattle.asl_forward.proofs.handling.any_means.Given as goal

-- whether one of those that are left means it, says of all
abbrev pub invariant-loop-name : goal.invariant-loop-name
invariant-loop-name l = list_any (means l.fault) (drop l.name-index l.name-items) ≡ list_any (means l.fault) l.name-items
