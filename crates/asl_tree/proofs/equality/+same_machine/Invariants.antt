use Rattle.std.proofs.Common.{◌≡◌, drop}
use Rattle.std.specs.Slice.Iter.{iter_rest}
use Rattle.asl_tree.specs.Definition.{machine_trees, named_states}
use Rattle.asl_tree.specs.Same.{same_machines, same_states}
use Rattle.asl_tree.specs.TreeView.{states_of}
use Rattle.asl_tree.proofs.equality.+same_machine.Given as goal

-- what is left decides
abbrev pub invariant-same_branches-loop-x : goal.invariant-same_branches-loop-x
invariant-same_branches-loop-x l = same_machines (machine_trees (drop l.x-index l.x-items)) (machine_trees (iter_rest l.rest)) ≡ same_machines (machine_trees l.a) (machine_trees l.b)

abbrev pub invariant-same_states-loop-name : goal.invariant-same_states-loop-name
invariant-same_states-loop-name l = same_states (named_states (states_of l.name-iterator)) (named_states (states_of l.rest)) ≡ same_states (named_states l.a) (named_states l.b)
