use Rattle.std.proofs.Common.{◌≡◌}
use Rattle.asl_tree.specs.Targets.{first_missing}
use Rattle.asl_tree.specs.TreeView.{states_of}
use Rattle.asl_tree.proofs.state.States.first_missing.Given as goal

-- what the states that are left miss, all miss
abbrev pub invariant-loop-name : goal.invariant-loop-name
invariant-loop-name l = first_missing l.self (states_of l._name-iterator) ≡ first_missing l.self l.self
