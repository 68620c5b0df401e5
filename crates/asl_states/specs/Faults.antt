-- The faults of a state that holds no machines, and of what a Map says of its elements. One that has several is refused with any of them.
use Rattle.std.specs.Prelude.{◌≡◌, ℕ, List, Bool, false, true, ◌⊎◌, Option, Some, None, codes}
use Rattle.serde_json.specs.Data.{Data as Source}
use Rattle.serde_json.specs.Find.{get, as_str}
use Rattle.json_tree.specs.declared.tree.Json.{Json}
use Rattle.asl_fields.specs.PathStep.{PathStep}
use Rattle.asl_fields.specs.FieldFaults.{FieldsFault, PathFieldFault, TemplateFieldFault, required_text_fault, optional_text_fault}
use Rattle.asl_fields.specs.Values.{IsPathField}
use Rattle.asl_fields.specs.declared.fault.MachineFault.{MachineFault}
use Rattle.asl_fields.specs.declared.fault.MachineFault.TheVariants.{Missing, Unsupported, BadField, NextAndEnd}
use Rattle.asl_fields.specs.declared.fields.Place.TheVariants as at
use Rattle.asl_states.specs.TestFaults.{ChoicesFault}
use Rattle.asl_errors.specs.ErrorFaults.{ErrorHandlingFault}
use Rattle.asl_states.specs.Reading.{end_of_state, whole_json, resource_named, name_of_two}

-- ---- a field

abbrev pub whole_fault : Option Json → Option MachineFault
whole_fault None = Some (BadField (codes "Result"))
whole_fault (Some json) = None

abbrev pub result_fault : Option Source → Option MachineFault
result_fault None = None
result_fault (Some d) = whole_fault (whole_json d)

-- of the state of this name
abbrev pub transition_fault : List ℕ → Option Bool → Option Source → Option MachineFault
transition_fault name None next = Some (BadField (codes "End"))
transition_fault name (Some true) None = None
transition_fault name (Some true) (Some next) = Some (NextAndEnd name)
transition_fault name (Some false) next = required_text_fault (codes "Next") next

abbrev pub ParametersFault : Source → MachineFault → Type 0
ParametersFault d e = TemplateFieldFault false (codes "Parameters") (get (codes "Parameters") d) e

abbrev pub ProcessingFault : Source → MachineFault → Type 0
ProcessingFault d e =
    PathFieldFault (codes "InputPath") (get (codes "InputPath") d) e ⊎ TemplateFieldFault false (codes "ResultSelector") (get (codes "ResultSelector") d) e
    ⊎ PathFieldFault (codes "ResultPath") (get (codes "ResultPath") d) e ⊎ PathFieldFault (codes "OutputPath") (get (codes "OutputPath") d) e

-- ---- a state

abbrev pub PassFault : List ℕ → Source → MachineFault → Type 0
PassFault name d e =
    FieldsFault at.Pass d e ⊎ ParametersFault d e ⊎ ProcessingFault d e ⊎ (result_fault (get (codes "Result") d) ≡ Some e)
    ⊎ (transition_fault name (end_of_state (get (codes "End") d)) (get (codes "Next") d) ≡ Some e)

abbrev pub SucceedFault : Source → MachineFault → Type 0
SucceedFault d e = FieldsFault at.Succeed d e ⊎ ProcessingFault d e

abbrev pub WaitFault : List ℕ → Source → MachineFault → Type 0
WaitFault name d e = FieldsFault at.Wait d e ⊎ ProcessingFault d e ⊎ (transition_fault name (end_of_state (get (codes "End") d)) (get (codes "Next") d) ≡ Some e)

abbrev pub FailFault : Source → MachineFault → Type 0
FailFault d e =
    FieldsFault at.Fail d e ⊎ (optional_text_fault (codes "Error") (get (codes "Error") d) ≡ Some e) ⊎ (optional_text_fault (codes "Cause") (get (codes "Cause") d) ≡ Some e)

abbrev pub WorkFault : List ℕ → Source → MachineFault → Type 0
WorkFault name d e = ProcessingFault d e ⊎ ErrorHandlingFault d e ⊎ (transition_fault name (end_of_state (get (codes "End") d)) (get (codes "Next") d) ≡ Some e)

abbrev pub ResourceTextFault : Option (List ℕ) → MachineFault → Type 0
ResourceTextFault None e = e ≡ BadField (codes "Resource")
ResourceTextFault (Some name) e = (e ≡ Unsupported (codes "Resource")) × (resource_named name ≡ None)

-- a resource is a text, and one that isn't among the three calls is left out
abbrev pub ResourceFault : Option Source → MachineFault → Type 0
ResourceFault None e = e ≡ Missing (codes "Resource")
ResourceFault (Some d) e = ResourceTextFault (as_str d) e

abbrev pub TaskFault : List ℕ → Source → MachineFault → Type 0
TaskFault name d e = FieldsFault at.Task d e ⊎ ResourceFault (get (codes "Resource") d) e ⊎ ParametersFault d e ⊎ WorkFault name d e

abbrev pub ChoiceFault : Source → MachineFault → Type 0
ChoiceFault d e =
    FieldsFault at.Choice d e ⊎ ChoicesFault (get (codes "Choices") d) e ⊎ (optional_text_fault (codes "Default") (get (codes "Default") d) ≡ Some e) ⊎ ProcessingFault d e

-- ---- a state that holds machines: what is a fault of an object at a place, `F` says

abbrev pub NamedSelectorFault : Source → Option (List ℕ) → MachineFault → Type 0
NamedSelectorFault d None e = e ≡ BadField (codes "Parameters")
NamedSelectorFault d (Some name) e = TemplateFieldFault true name (get name d) e

-- it is no path, nor may it be `null`
abbrev pub ItemsPathFault : Option Source → MachineFault → Type 0
ItemsPathFault d e = (e ≡ BadField (codes "ItemsPath")) × ((p : List PathStep) → IsPathField d (Some p) → ⊥)

abbrev pub HasSelectorFault : Source → MachineFault → Type 0
HasSelectorFault d e = NamedSelectorFault d (name_of_two (codes "ItemSelector") (codes "Parameters") d) e
