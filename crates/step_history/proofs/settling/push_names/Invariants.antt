use Rattle.std.proofs.Common.{◌≡◌, ◌++◌, length, map}
use Rattle.saved_steps.specs.declared.record.StepRecord.{StepRecord}
use Rattle.step_history.specs.SettledNames.{HasRoomFor}
use Rattle.step_history.proofs.settling.push_names.Given as goal

-- the names that are there and those that are left are all, and there is room for these
abbrev pub invariant-loop-names : goal.invariant-loop-names
invariant-loop-names l =
    (l.names.items ++ map (λ (r : StepRecord). r.fact.name) l.left.items ≡ l.fn.names.items ++ map (λ (r : StepRecord). r.fact.name) l.fn.taken.items)
    × HasRoomFor l.names (length l.left.items)

abbrev pub decreases-loop-names : goal.decreases-loop-names
decreases-loop-names l = length l.left.items
