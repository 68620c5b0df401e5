use Rattle.std.proofs.Common.{ℕ, ◌+◌, ◌*◌, List, [], drop}
use Rattle.serde_json.specs.View.{items_view, members_view}
use Rattle.asl_fields.specs.declared.fault.MachineFault.{MachineFault}
use Rattle.asl_tree.specs.Definition.{StateTree, Definition}
use Rattle.asl_machine.specs.Faults.{LevelFault, StatesFault, BranchesFault}
use Rattle.asl_machine.specs.Profile.{IsMachine, StatesAre, BranchesAre}
use Rattle.asl_machine.proofs.read.+read.Given as goal

-- what the rest adds to those that are read is what all are; a fault of the rest is one of all
abbrev pub invariant-read_each_state-loop-name : goal.invariant-read_each_state-loop-name
invariant-read_each_state-loop-name l =
    ((states : List (List ℕ × StateTree)) → StatesAre (IsMachine l.levels) (members_view l.name-iterator) l.read states → StatesAre (IsMachine l.levels) (members_view l.fn.states.entries) [] states)
    × ((e : MachineFault) → StatesFault (LevelFault l.levels) (members_view l.name-iterator) e → StatesFault (LevelFault l.levels) (members_view l.fn.states.entries) e)

abbrev pub invariant-read_each_branch-loop-item : goal.invariant-read_each_branch-loop-item
invariant-read_each_branch-loop-item l =
    ((all : List Definition) → BranchesAre (IsMachine l.levels) (items_view (drop l.item-index l.item-items)) l.inner.items all → BranchesAre (IsMachine l.levels) (items_view l.item-items) [] all)
    × ((e : MachineFault) → BranchesFault (LevelFault l.levels) (items_view (drop l.item-index l.item-items)) e → BranchesFault (LevelFault l.levels) (items_view l.item-items) e)

abbrev pub decreases-read_states : goal.decreases-read_states
decreases-read_states l = 10 * l.levels + 2

abbrev pub decreases-read_each_state : goal.decreases-read_each_state
decreases-read_each_state l = 10 * l.levels + 9

abbrev pub decreases-read_state : goal.decreases-read_state
decreases-read_state l = 10 * l.levels + 8

abbrev pub decreases-read_kind : goal.decreases-read_kind
decreases-read_kind l = 10 * l.levels + 7

abbrev pub decreases-read_parallel : goal.decreases-read_parallel
decreases-read_parallel l = 10 * l.levels + 6

abbrev pub decreases-read_map : goal.decreases-read_map
decreases-read_map l = 10 * l.levels + 6

abbrev pub decreases-read_branches : goal.decreases-read_branches
decreases-read_branches l = 10 * l.levels + 5

abbrev pub decreases-read_processor : goal.decreases-read_processor
decreases-read_processor l = 10 * l.levels + 5

abbrev pub decreases-read_each_branch : goal.decreases-read_each_branch
decreases-read_each_branch l = 10 * l.levels + 4

abbrev pub decreases-read_machine : goal.decreases-read_machine
decreases-read_machine l = 10 * l.levels + 3
