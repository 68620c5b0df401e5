-- Which state that holds no machines a definition's object is ("State Types"), by the tables of its fields, and what a Map says of elements.
use Rattle.std.specs.Prelude.{◌≡◌, ℕ, true, false, List, Option, None, Some, if◌then◌else◌, codes}
use Rattle.serde_json.specs.Data.{Data as Source}
use Rattle.serde_json.specs.Find.{get}
use Rattle.asl_fields.specs.Templates.{Payload}
use Rattle.asl_fields.specs.Fields.{is_text}
use Rattle.asl_fields.specs.Values.{HasFields, IsPathField, IsTemplateField, text_or_empty}
use Rattle.asl_fields.specs.declared.fields.Place.TheVariants as at
use Rattle.asl_states.specs.TestFields.{AreRules}
use Rattle.asl_errors.specs.ErrorFields.{IsErrorHandling}
use Rattle.asl_errors.specs.declared.errors.ErrorHandling.{ErrorHandling}
use Rattle.asl_states.specs.Reading.{transition_of, result_of, default_of, resource_of, name_of_two}
use Rattle.asl_states.specs.declared.kind.StateKind.{StateKind}
use Rattle.asl_states.specs.declared.kind.StateKind.TheVariants as kind
use Rattle.asl_states.specs.declared.state.Choice.{Choice}
use Rattle.asl_states.specs.declared.state.Fail.{Fail}
use Rattle.asl_states.specs.declared.state.Pass.{Pass}
use Rattle.asl_states.specs.declared.state.Processing.{Processing}
use Rattle.asl_states.specs.declared.state.Succeed.{Succeed}
use Rattle.asl_states.specs.declared.state.Task.{Task}
use Rattle.asl_states.specs.declared.state.Transition.{Transition}
use Rattle.asl_states.specs.declared.state.Wait.{Wait}

-- what all states with an input and an output may have, but for parameters
abbrev pub IsProcessing : Source → Processing → Type 0
IsProcessing d p =
    IsPathField (get (codes "InputPath") d) p.input_path × IsTemplateField false (get (codes "ResultSelector") d) p.result_selector
    × IsPathField (get (codes "ResultPath") d) p.result_path × IsPathField (get (codes "OutputPath") d) p.output_path

abbrev pub HasParameters : Source → Processing → Type 0
HasParameters d p = IsTemplateField false (get (codes "Parameters") d) p.parameters

-- ---- states

abbrev pub IsPass : Source → Pass → Type 0
IsPass d s =
    HasFields at.Pass d × HasParameters d s.processing × IsProcessing d s.processing × (result_of (get (codes "Result") d) ≡ Some s.result) × (transition_of d ≡ Some s.transition)

abbrev pub IsSucceed : Source → Succeed → Type 0
IsSucceed d s = HasFields at.Succeed d × (s.processing.parameters ≡ None) × IsProcessing d s.processing

abbrev pub IsWait : Source → Wait → Type 0
IsWait d s = HasFields at.Wait d × (s.processing.parameters ≡ None) × IsProcessing d s.processing × (transition_of d ≡ Some s.transition)

abbrev pub IsFail : Source → Fail → Type 0
IsFail d s = HasFields at.Fail d × (text_or_empty (get (codes "Error") d) ≡ Some s.error) × (text_or_empty (get (codes "Cause") d) ≡ Some s.cause)

-- what a Task, a Parallel and a Map have alike
abbrev pub HasWork : Source → Processing → ErrorHandling → Transition → Type 0
HasWork d p errors transition = IsProcessing d p × IsErrorHandling d errors × (transition_of d ≡ Some transition)

abbrev pub IsTask : Source → Task → Type 0
IsTask d s = HasFields at.Task d × (resource_of (get (codes "Resource") d) ≡ Some s.resource) × HasParameters d s.processing × HasWork d s.processing s.errors s.transition

abbrev pub IsChoice : Source → Choice → Type 0
IsChoice d s =
    HasFields at.Choice d × AreRules d s.rules × (default_of (get (codes "Default") d) ≡ Some s.default) × (s.processing.parameters ≡ None) × IsProcessing d s.processing

-- ---- states that hold machines: which machine an object at a place is, `P` says

abbrev pub NamedSelector : Source → Option (List ℕ) → Option Payload → Type 0
NamedSelector d None p = ⊥
NamedSelector d (Some name) p = IsTemplateField true (get name d) p

abbrev pub HasSelector : Source → Option Payload → Type 0
HasSelector d p = NamedSelector d (name_of_two (codes "ItemSelector") (codes "Parameters") d) p

-- the type of a name
abbrev pub kind_named : List ℕ → Option StateKind
kind_named name =
    if is_text name (codes "Pass") then Some kind.Pass
    else (if is_text name (codes "Task") then Some kind.Task
    else (if is_text name (codes "Choice") then Some kind.Choice
    else (if is_text name (codes "Wait") then Some kind.Wait
    else (if is_text name (codes "Succeed") then Some kind.Succeed
    else (if is_text name (codes "Fail") then Some kind.Fail
    else (if is_text name (codes "Parallel") then Some kind.Parallel
    else (if is_text name (codes "Map") then Some kind.Map
    else None)))))))
