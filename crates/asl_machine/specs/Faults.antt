-- The faults that a definition has. One that has several is refused with any of them.
use Rattle.std.specs.Prelude.{◌≡◌, ℕ, zero, suc, List, ◌<◌, ◌⊎◌, Option, Some, None, option_and_then, codes}
use Rattle.serde_json.specs.Data.{Data as Source, Items, no_items, item, Members, no_members, member}
use Rattle.serde_json.specs.Find.{get, as_str, as_array, as_object}
use Rattle.asl_fields.specs.FieldFaults.{FieldsFault, required_text_fault}
use Rattle.asl_fields.specs.declared.fault.MachineFault.{MachineFault}
use Rattle.asl_fields.specs.declared.fault.MachineFault.TheVariants.{Missing, BadField, TooDeep}
use Rattle.asl_fields.specs.declared.fields.Place.{Place}
use Rattle.asl_fields.specs.declared.fields.Place.TheVariants as at
use Rattle.asl_tree.specs.Definition.{StateTree}
use Rattle.asl_states.specs.Profile.{kind_named}
use Rattle.asl_machine.specs.Profile.{MembersAre, StatesWithin, start_field, states_field}
use Rattle.asl_states.specs.Reading.{config_fault, concurrency_fault, name_of_two, count_items, most_branches}
use Rattle.asl_tree.specs.Targets.{target_fault}
use Rattle.asl_states.specs.declared.kind.StateKind.{StateKind}
use Rattle.asl_states.specs.declared.kind.StateKind.TheVariants as kind
use Rattle.asl_states.specs.Faults.{ParametersFault, PassFault, SucceedFault, WaitFault, FailFault, WorkFault, TaskFault, ChoiceFault, ItemsPathFault, HasSelectorFault}

-- ---- a state that holds machines: what is a fault of an object at a place, `F` says

abbrev pub BranchFault : (Place → Source → MachineFault → Type 0) → Source → Option Members → MachineFault → Type 0
BranchFault F d None e = e ≡ BadField (codes "Branches")
BranchFault F d (Some ms) e = F at.Branch d e

abbrev pub BranchesFault : (Place → Source → MachineFault → Type 0) → Items → MachineFault → Type 0
BranchesFault F no_items e = ⊥
BranchesFault F (item d ds) e = BranchFault F d (as_object d) e ⊎ BranchesFault F ds e

abbrev pub ListedBranchesFault : (Place → Source → MachineFault → Type 0) → Option Items → MachineFault → Type 0
ListedBranchesFault F None e = e ≡ BadField (codes "Branches")
ListedBranchesFault F (Some ds) e = BranchesFault F ds e ⊎ ((e ≡ BadField (codes "Branches")) × (most_branches < count_items ds))

abbrev pub BranchesFieldFault : (Place → Source → MachineFault → Type 0) → Option Source → MachineFault → Type 0
BranchesFieldFault F None e = e ≡ Missing (codes "Branches")
BranchesFieldFault F (Some d) e = ListedBranchesFault F (as_array d) e

abbrev pub ParallelFault : (Place → Source → MachineFault → Type 0) → List ℕ → Source → MachineFault → Type 0
ParallelFault F name d e =
    FieldsFault at.Parallel d e ⊎ ParametersFault d e ⊎ WorkFault name d e ⊎ BranchesFieldFault F (get (codes "Branches") d) e

abbrev pub ProcessorObjectFault : (Place → Source → MachineFault → Type 0) → List ℕ → Source → Option Members → MachineFault → Type 0
ProcessorObjectFault F field d None e = e ≡ BadField field
ProcessorObjectFault F field d (Some ms) e = (config_fault (get (codes "ProcessorConfig") d) ≡ Some e) ⊎ F at.Processor d e

abbrev pub ProcessorFault : (Place → Source → MachineFault → Type 0) → List ℕ → Option Source → MachineFault → Type 0
ProcessorFault F field None e = e ≡ Missing field
ProcessorFault F field (Some d) e = ProcessorObjectFault F field d (as_object d) e

-- of a field that has an older name: where both stand, the older one's
abbrev pub NamedProcessorFault : (Place → Source → MachineFault → Type 0) → Source → Option (List ℕ) → MachineFault → Type 0
NamedProcessorFault F d None e = e ≡ BadField (codes "Iterator")
NamedProcessorFault F d (Some name) e = ProcessorFault F name (get name d) e

abbrev pub HasProcessorFault : (Place → Source → MachineFault → Type 0) → Source → MachineFault → Type 0
HasProcessorFault F d e = NamedProcessorFault F d (name_of_two (codes "ItemProcessor") (codes "Iterator") d) e

abbrev pub MapFault : (Place → Source → MachineFault → Type 0) → List ℕ → Source → MachineFault → Type 0
MapFault F name d e =
    FieldsFault at.Map d e ⊎ (concurrency_fault (get (codes "MaxConcurrency") d) ≡ Some e) ⊎ ItemsPathFault (get (codes "ItemsPath") d) e ⊎ HasSelectorFault d e ⊎ WorkFault name d e
    ⊎ HasProcessorFault F d e

-- of the state of this name, and of a type that is none
abbrev pub KindFault : (Place → Source → MachineFault → Type 0) → List ℕ → Option StateKind → Source → MachineFault → Type 0
KindFault F name (Some kind.Pass) d e = PassFault name d e
KindFault F name (Some kind.Succeed) d e = SucceedFault d e
KindFault F name (Some kind.Task) d e = TaskFault name d e
KindFault F name (Some kind.Choice) d e = ChoiceFault d e
KindFault F name (Some kind.Wait) d e = WaitFault name d e
KindFault F name (Some kind.Fail) d e = FailFault d e
KindFault F name (Some kind.Parallel) d e = ParallelFault F name d e
KindFault F name (Some kind.Map) d e = MapFault F name d e
KindFault F name None d e = e ≡ BadField (codes "Type")

abbrev pub TypeFault : (Place → Source → MachineFault → Type 0) → List ℕ → Source → Option (List ℕ) → MachineFault → Type 0
TypeFault F name d None e = required_text_fault (codes "Type") (get (codes "Type") d) ≡ Some e
TypeFault F name d (Some type) e = KindFault F name (kind_named type) d e

abbrev pub ObjectFault : (Place → Source → MachineFault → Type 0) → List ℕ → Source → Option Members → MachineFault → Type 0
ObjectFault F name d None e = e ≡ BadField (codes "States")
ObjectFault F name d (Some ms) e = TypeFault F name d (option_and_then as_str (get (codes "Type") d)) e

-- of the state of this name
abbrev pub StateFault : (Place → Source → MachineFault → Type 0) → List ℕ → Source → MachineFault → Type 0
StateFault F name d e = ObjectFault F name d (as_object d) e

abbrev pub StatesFault : (Place → Source → MachineFault → Type 0) → Members → MachineFault → Type 0
StatesFault F no_members e = ⊥
StatesFault F (member name d ms) e = StateFault F name d e ⊎ StatesFault F ms e

-- ---- a machine

-- of the members of `States`, `S` says
abbrev pub StatesFieldFault : (Members → MachineFault → Type 0) → Option Members → MachineFault → Type 0
StatesFieldFault S None e = e ≡ BadField (codes "States")
StatesFieldFault S (Some ms) e = S ms e

abbrev pub RequiredStatesFault : (Members → MachineFault → Type 0) → Option Source → MachineFault → Type 0
RequiredStatesFault S None e = e ≡ Missing (codes "States")
RequiredStatesFault S (Some d) e = StatesFieldFault S (as_object d) e

-- where the machine starts and its states are read, a name that is no state's
abbrev pub TargetsFault : (Members → List (List ℕ × StateTree) → Type 0) → Source → MachineFault → Type 0
TargetsFault S d e =
    (start : List ℕ) × (states : List (List ℕ × StateTree)) × (start_field d ≡ Some start) × MembersAre S (states_field d) states × (target_fault start states ≡ Some e)

abbrev pub FaultOver : (Members → MachineFault → Type 0) → (Members → List (List ℕ × StateTree) → Type 0) → Place → Source → MachineFault → Type 0
FaultOver F S place d e =
    FieldsFault place d e ⊎ (required_text_fault (codes "StartAt") (get (codes "StartAt") d) ≡ Some e) ⊎ RequiredStatesFault F (get (codes "States") d) e ⊎ TargetsFault S d e

-- of a `States` object, where such objects may nest so many levels deep from this one on
abbrev pub StatesFaultWithin : ℕ → Members → MachineFault → Type 0
StatesFaultWithin zero ms e = e ≡ TooDeep
StatesFaultWithin (suc levels) ms e = StatesFault (FaultOver (StatesFaultWithin levels) (StatesWithin levels)) ms e

abbrev pub LevelFault : ℕ → Place → Source → MachineFault → Type 0
LevelFault levels place d e = FaultOver (StatesFaultWithin levels) (StatesWithin levels) place d e

abbrev pub WholeFault : Source → Option Members → MachineFault → Type 0
WholeFault d None e = e ≡ Missing (codes "StartAt")
WholeFault d (Some ms) e = LevelFault 32 at.Top d e

-- a fault of a definition
abbrev pub DefinitionFault : Source → MachineFault → Type 0
DefinitionFault d e = WholeFault d (as_object d) e
