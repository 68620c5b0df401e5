-- Which machine a definition is ("State Machine Structure", "State Types"), by the tables of its objects' fields.
use Rattle.std.specs.Prelude.{◌≡◌, ℕ, zero, suc, ◌≤◌, List, [], ◌∷◌, ◌++◌, Option, None, Some, option_and_then, codes}
use Rattle.std.specs.BTreeMap.{insert_entry}
use Rattle.std.specs.Cmp.Lexicographic.{slice_cmp}
use Rattle.std.specs.Ordering.{nat_cmp}
use Rattle.serde_json.specs.Data.{Data as Source, Items, no_items, item, Members, no_members, member}
use Rattle.serde_json.specs.Find.{get, as_str, as_array, as_object}
use Rattle.asl_fields.specs.Values.{HasFields, IsPathField}
use Rattle.asl_fields.specs.declared.fields.Place.{Place}
use Rattle.asl_fields.specs.declared.fields.Place.TheVariants as at
use Rattle.asl_tree.specs.Definition.{StateTree, Definition}
use Rattle.asl_states.specs.Reading.{config_fault, concurrency_of, name_of_two, count_items, most_branches}
use Rattle.asl_tree.specs.Targets.{target_fault}
use Rattle.asl_tree.specs.TreeView.{tree_of}
use Rattle.asl_states.specs.declared.kind.StateKind.{StateKind}
use Rattle.asl_states.specs.declared.kind.StateKind.TheVariants as kind
use Rattle.asl_states.specs.declared.state.Choice.{Choice}
use Rattle.asl_states.specs.declared.state.Fail.{Fail}
use Rattle.asl_tree.specs.declared.state.Map.{Map}
use Rattle.asl_tree.specs.declared.state.Parallel.{Parallel}
use Rattle.asl_states.specs.declared.state.Pass.{Pass}
use Rattle.asl_tree.specs.declared.state.State.{State}
use Rattle.asl_tree.specs.declared.state.State.TheVariants.{Pass as PassState, Task as TaskState, Choice as ChoiceState, Wait as WaitState, Succeed as SucceedState, Fail as FailState, Parallel as ParallelState, Map as MapState}
use Rattle.asl_states.specs.declared.state.Succeed.{Succeed}
use Rattle.asl_states.specs.declared.state.Task.{Task}
use Rattle.asl_states.specs.declared.state.Wait.{Wait}
use Rattle.asl_states.specs.Profile.{HasParameters, IsPass, IsSucceed, IsWait, IsFail, HasWork, IsTask, IsChoice, HasSelector, kind_named}

-- ---- states that hold machines: which machine an object at a place is, `P` says

abbrev pub BranchesAre : (Place → Source → Definition → Type 0) → Items → List Definition → List Definition → Type 0
BranchesAre P no_items before ms = ms ≡ before
BranchesAre P (item d ds) before ms = (m : Definition) × P at.Branch d m × BranchesAre P ds (before ++ m ∷ []) ms

-- at most 4,096
abbrev pub ListedBranches : (Place → Source → Definition → Type 0) → Option Items → List Definition → Type 0
ListedBranches P None ms = ⊥
ListedBranches P (Some ds) ms = BranchesAre P ds [] ms × (count_items ds ≤ most_branches)

abbrev pub IsParallel : (Place → Source → Definition → Type 0) → Source → Parallel → Type 0
IsParallel P d s =
    HasFields at.Parallel d × HasParameters d s.processing × HasWork d s.processing s.errors s.transition
    × ListedBranches P (option_and_then as_array (get (codes "Branches") d)) s.branches

-- a processor may say that it runs inline
abbrev pub IsProcessor : (Place → Source → Definition → Type 0) → Option Source → Definition → Type 0
IsProcessor P None m = ⊥
IsProcessor P (Some d) m = (config_fault (get (codes "ProcessorConfig") d) ≡ None) × P at.Processor d m

abbrev pub NamedProcessor : (Place → Source → Definition → Type 0) → Source → Option (List ℕ) → Definition → Type 0
NamedProcessor P d None m = ⊥
NamedProcessor P d (Some name) m = IsProcessor P (get name d) m

abbrev pub HasProcessor : (Place → Source → Definition → Type 0) → Source → Definition → Type 0
HasProcessor P d m = NamedProcessor P d (name_of_two (codes "ItemProcessor") (codes "Iterator") d) m

abbrev pub IsMap : (Place → Source → Definition → Type 0) → Source → Map → Type 0
IsMap P d s =
    HasFields at.Map d × (concurrency_of (get (codes "MaxConcurrency") d) ≡ Some s.max_concurrency) × IsPathField (get (codes "ItemsPath") d) (Some s.items_path) × HasSelector d s.item_selector
    × (s.processing.parameters ≡ None) × HasWork d s.processing s.errors s.transition × HasProcessor P d s.processor

abbrev pub IsPassState : Source → State → Type 0
IsPassState d (PassState s) = IsPass d s
IsPassState d _ = ⊥

abbrev pub IsSucceedState : Source → State → Type 0
IsSucceedState d (SucceedState s) = IsSucceed d s
IsSucceedState d _ = ⊥

abbrev pub IsWaitState : Source → State → Type 0
IsWaitState d (WaitState s) = IsWait d s
IsWaitState d _ = ⊥

abbrev pub IsFailState : Source → State → Type 0
IsFailState d (FailState s) = IsFail d s
IsFailState d _ = ⊥

abbrev pub IsTaskState : Source → State → Type 0
IsTaskState d (TaskState s) = IsTask d s
IsTaskState d _ = ⊥

abbrev pub IsChoiceState : Source → State → Type 0
IsChoiceState d (ChoiceState s) = IsChoice d s
IsChoiceState d _ = ⊥

abbrev pub IsParallelState : (Place → Source → Definition → Type 0) → Source → State → Type 0
IsParallelState P d (ParallelState s) = IsParallel P d s
IsParallelState P d _ = ⊥

abbrev pub IsMapState : (Place → Source → Definition → Type 0) → Source → State → Type 0
IsMapState P d (MapState s) = IsMap P d s
IsMapState P d _ = ⊥

-- a state of this type
abbrev pub IsOfKind : (Place → Source → Definition → Type 0) → Option StateKind → Source → State → Type 0
IsOfKind P (Some kind.Pass) d s = IsPassState d s
IsOfKind P (Some kind.Task) d s = IsTaskState d s
IsOfKind P (Some kind.Choice) d s = IsChoiceState d s
IsOfKind P (Some kind.Wait) d s = IsWaitState d s
IsOfKind P (Some kind.Succeed) d s = IsSucceedState d s
IsOfKind P (Some kind.Fail) d s = IsFailState d s
IsOfKind P (Some kind.Parallel) d s = IsParallelState P d s
IsOfKind P (Some kind.Map) d s = IsMapState P d s
IsOfKind P None d s = ⊥

abbrev pub state_kind_of : Source → Option StateKind
state_kind_of d = option_and_then kind_named (option_and_then as_str (get (codes "Type") d))

abbrev pub IsStateText : (Place → Source → Definition → Type 0) → Source → State → Type 0
IsStateText P d s = IsOfKind P (state_kind_of d) d s

-- ---- machines

-- the states of these names beside those before
abbrev pub StatesAre : (Place → Source → Definition → Type 0) → Members → List (List ℕ × StateTree) → List (List ℕ × StateTree) → Type 0
StatesAre P no_members before states = states ≡ before
StatesAre P (member name d ms) before states = (s : State) × IsStateText P d s × StatesAre P ms (insert_entry (slice_cmp nat_cmp) before name (tree_of s)) states

-- the states of the members of `States`, as `S` says
abbrev pub MembersAre : (Members → List (List ℕ × StateTree) → Type 0) → Option Members → List (List ℕ × StateTree) → Type 0
MembersAre S None states = ⊥
MembersAre S (Some ms) states = S ms states

-- the members of the field `States`
abbrev pub states_field : Source → Option Members
states_field d = option_and_then as_object (get (codes "States") d)

abbrev pub start_field : Source → Option (List ℕ)
start_field d = option_and_then as_str (get (codes "StartAt") d)

-- a machine, or a branch or a processor of one: each name that is to be a state's is the name of one
abbrev pub MachineOver : (Members → List (List ℕ × StateTree) → Type 0) → Place → Source → Definition → Type 0
MachineOver S place d m = HasFields place d × (start_field d ≡ Some m.start) × MembersAre S (states_field d) m.states × (target_fault m.start m.states ≡ None)

-- the states of a `States` object, where such objects nest at most so many levels deep from this one on
abbrev pub StatesWithin : ℕ → Members → List (List ℕ × StateTree) → Type 0
StatesWithin zero ms states = ⊥
StatesWithin (suc levels) ms states = StatesAre (MachineOver (StatesWithin levels)) ms [] states

abbrev pub IsMachine : ℕ → Place → Source → Definition → Type 0
IsMachine levels place d m = MachineOver (StatesWithin levels) place d m

-- the machine of a definition
abbrev pub Defines : Source → Definition → Type 0
Defines d m = IsMachine 32 at.Top d m

-- no machine is the definition's
abbrev pub DefinesNone : Source → Type 0
DefinesNone d = (m : Definition) → Defines d m → ⊥
