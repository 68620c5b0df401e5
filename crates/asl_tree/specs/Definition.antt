-- Machines and their states, as trees: a state's branches and its processor are machines in it.
use Rattle.std.specs.Prelude.{ℕ, suc, max, List, [], ◌∷◌, Option}
use Rattle.asl_states.specs.Templates.{Payload}
use Rattle.asl_states.specs.PathStep.{PathStep}
use Rattle.asl_states.specs.ErrorHandling.{ErrorHandling}
use Rattle.asl_states.specs.declared.state.Choice.{Choice}
use Rattle.asl_states.specs.declared.state.Fail.{Fail}
use Rattle.asl_states.specs.declared.state.Pass.{Pass}
use Rattle.asl_states.specs.declared.state.Processing.{Processing}
use Rattle.asl_states.specs.declared.state.Succeed.{Succeed}
use Rattle.asl_states.specs.declared.state.Task.{Task}
use Rattle.asl_states.specs.declared.state.Transition.{Transition}
use Rattle.asl_states.specs.declared.state.Wait.{Wait}

mutual
  pub data StateTree : Type 0 where
    pass : Pass → StateTree
    task : Task → StateTree
    choice : Choice → StateTree
    wait : Wait → StateTree
    succeed : Succeed → StateTree
    fail : Fail → StateTree
    parallel : MachineTrees → Processing → ErrorHandling → Transition → StateTree
    map_over : MachineTree → List PathStep → Option Payload → ℕ → Processing → ErrorHandling → Transition → StateTree

  pub data MachineTree : Type 0 where
    machine : List ℕ → NamedStates → MachineTree

  pub data MachineTrees : Type 0 where
    no_machines : MachineTrees
    branch : MachineTree → MachineTrees → MachineTrees

  pub data NamedStates : Type 0 where
    no_states : NamedStates
    named : List ℕ → StateTree → NamedStates → NamedStates

-- a machine: where it starts, and its states by name
pub record Definition : Type 0 where
  pub start : List ℕ
  pub states : List (List ℕ × StateTree)

abbrev pub named_states : List (List ℕ × StateTree) → NamedStates
named_states [] = no_states
named_states (s ∷ ss) = named s.0 s.1 (named_states ss)

abbrev pub states_in : NamedStates → List (List ℕ × StateTree)
states_in no_states = []
states_in (named name s ss) = (name, s) ∷ states_in ss

abbrev pub machine_tree : Definition → MachineTree
machine_tree d = machine d.start (named_states d.states)

abbrev pub definition_in : MachineTree → Definition
definition_in (machine start states) = record { start = start; states = states_in states }

abbrev pub machine_trees : List Definition → MachineTrees
machine_trees [] = no_machines
machine_trees (d ∷ ds) = branch (machine_tree d) (machine_trees ds)

abbrev pub definitions_in : MachineTrees → List Definition
definitions_in no_machines = []
definitions_in (branch m ms) = definition_in m ∷ definitions_in ms

-- ---- how deep machines nest

abbrev mutual
  pub state_depth : StateTree → ℕ
  state_depth (pass s) = 0
  state_depth (task s) = 0
  state_depth (choice s) = 0
  state_depth (wait s) = 0
  state_depth (succeed s) = 0
  state_depth (fail s) = 0
  state_depth (parallel branches processing errors transition) = suc (trees_depth branches)
  state_depth (map_over processor path selector bound processing errors transition) = suc (tree_depth processor)

  pub tree_depth : MachineTree → ℕ
  tree_depth (machine start states) = suc (named_depth states)

  pub trees_depth : MachineTrees → ℕ
  trees_depth no_machines = 0
  trees_depth (branch m ms) = max (suc (tree_depth m)) (trees_depth ms)

  pub named_depth : NamedStates → ℕ
  named_depth no_states = 0
  named_depth (named name s ss) = max (state_depth s) (named_depth ss)

abbrev pub states_depth : List (List ℕ × StateTree) → ℕ
states_depth ss = named_depth (named_states ss)

abbrev pub definition_depth : Definition → ℕ
definition_depth d = tree_depth (machine_tree d)

abbrev pub branches_depth : List Definition → ℕ
branches_depth ds = trees_depth (machine_trees ds)
