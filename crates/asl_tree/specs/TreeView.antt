-- The tree that a `State` stands for, and the state of a tree.
use Rattle.std.specs.Prelude.{ℕ, List, map}
use Rattle.asl_tree.specs.Definition.{StateTree, pass, task, choice, wait, succeed, fail, parallel, map_over, machine_tree, machine_trees, definition_in, definitions_in}
use Rattle.asl_tree.specs.declared.state.State.{State}
use Rattle.asl_tree.specs.declared.state.State.TheVariants.{Pass, Task, Choice, Wait, Succeed, Fail, Parallel, Map}

abbrev pub tree_of : State → StateTree
tree_of (Pass s) = pass s
tree_of (Task s) = task s
tree_of (Choice s) = choice s
tree_of (Wait s) = wait s
tree_of (Succeed s) = succeed s
tree_of (Fail s) = fail s
tree_of (Parallel s) = parallel (machine_trees s.branches) s.processing s.errors s.transition
tree_of (Map s) = map_over (machine_tree s.processor) s.items_path s.item_selector s.max_concurrency s.processing s.errors s.transition

abbrev pub state_in : StateTree → State
state_in (pass s) = Pass s
state_in (task s) = Task s
state_in (choice s) = Choice s
state_in (wait s) = Wait s
state_in (succeed s) = Succeed s
state_in (fail s) = Fail s
state_in (parallel branches processing errors transition) =
    Parallel (record { branches = definitions_in branches; processing = processing; errors = errors; transition = transition })
state_in (map_over processor items_path item_selector max_concurrency processing errors transition) =
    Map
    (record {
      processor = definition_in processor;
      items_path = items_path;
      item_selector = item_selector;
      max_concurrency = max_concurrency;
      processing = processing;
      errors = errors;
      transition = transition;
    })

abbrev pub named_tree_of : List ℕ × State → List ℕ × StateTree
named_tree_of s = (s.0, tree_of s.1)

abbrev pub states_of : List (List ℕ × State) → List (List ℕ × StateTree)
states_of = map named_tree_of
