use Rattle.std.proofs.Common.{◌≡◌, ◌≤◌, length, drop}
use Rattle.json_tree.specs.View.{data_of}
use Rattle.ref_paths.specs.Nesting.{nested}
use Rattle.ref_paths.proofs.nesting.nest.Given as goal

-- what is made so far is for the steps from here on
abbrev pub invariant-loop-at : goal.invariant-loop-at
invariant-loop-at l = record { within : l.at ≤ length l.steps; made : data_of l.inner ≡ nested (drop l.at l.steps) (data_of l.fn.value) }

abbrev pub decreases-loop-at : goal.decreases-loop-at
decreases-loop-at l = l.at
