-- An object that has a fault is no state.
use Rattle.std.proofs.Common.{◌≡◌, ℕ, List, Option, Some, None, Bool, true, false, inl, inr, option_map, option_and_then, sym, ◌∙◌, codes}
use Rattle.serde_json.specs.Data.{Data as Source}
use Rattle.serde_json.specs.Find.{get, as_str}
use Rattle.json_tree.specs.declared.tree.Json.{Json}
use Rattle.asl_fields.specs.FieldFaults.{optional_text_fault, text_fault}
use Rattle.asl_fields.proofs.FieldsRefused.{fields_refused, template_refused, optional_refused}
use Rattle.asl_fields.specs.declared.fault.MachineFault.{MachineFault}
use Rattle.asl_fields.specs.declared.fields.Place.TheVariants as at
use Rattle.asl_states.proofs.RulesRefused.{rules_refused}
use Rattle.asl_errors.proofs.ErrorsRefused.{error_handling_refused}
use Rattle.asl_errors.specs.declared.errors.ErrorHandling.{ErrorHandling}
use Rattle.asl_states.specs.Faults.{whole_fault, result_fault, transition_fault, ProcessingFault, PassFault, WaitFault, SucceedFault, FailFault, WorkFault, ResourceTextFault, ResourceFault, TaskFault, ChoiceFault}
use Rattle.asl_states.specs.Profile.{IsProcessing, HasWork, IsPass, IsWait, IsSucceed, IsFail, IsTask, IsChoice}
use Rattle.asl_states.specs.Reading.{end_of_state, goes_to, whole_json, result_of, default_of, resource_named}
use Rattle.asl_states.specs.declared.state.Choice.{Choice}
use Rattle.asl_states.specs.declared.state.Fail.{Fail}
use Rattle.asl_states.specs.declared.state.Pass.{Pass}
use Rattle.asl_states.specs.declared.state.Processing.{Processing}
use Rattle.asl_states.specs.declared.state.Resource.{Resource}
use Rattle.asl_states.specs.declared.state.Succeed.{Succeed}
use Rattle.asl_states.specs.declared.state.Task.{Task}
use Rattle.asl_states.specs.declared.state.Transition.{Transition}
use Rattle.asl_states.specs.declared.state.Wait.{Wait}

-- ---- fields

pub processing_refused : (d : Source) (p : Processing) (e : MachineFault) → ProcessingFault d e → IsProcessing d p → ⊥
processing_refused d p e fault is =
    elim fault [
      | inl h ↦ h.1 p.input_path is.0
      | inr later ↦
          elim later [
            | inl h ↦ template_refused false (codes "ResultSelector") (get (codes "ResultSelector") d) p.result_selector e h is.1
            | inr last ↦ elim last [ inl h ↦ h.1 p.result_path is.2 | inr h ↦ h.1 p.output_path is.3 ]
          ]
    ]

pub whole_refused : (o : Option Json) (r : Option Json) (e : MachineFault) → whole_fault o ≡ Some e → option_map Some o ≡ Some r → ⊥
whole_refused None r e fault is = cc is
whole_refused (Some j) r e fault is = cc fault

pub result_refused : (d : Option Source) (r : Option Json) (e : MachineFault) → result_fault d ≡ Some e → result_of d ≡ Some r → ⊥
result_refused None r e fault is = cc fault
result_refused (Some d) r e fault is = whole_refused (whole_json d) r e fault is

pub next_refused : (field : List ℕ) (text : Option (List ℕ)) (make : List ℕ → Transition) (t : Transition) (e : MachineFault) → text_fault field text ≡ Some e → option_map make text ≡ Some t → ⊥
next_refused field None make t e fault is = cc is
next_refused field (Some text) make t e fault is = cc fault

pub transition_refused : (name : List ℕ) (ends : Option Bool) (next : Option Source) (t : Transition) (e : MachineFault) → transition_fault name ends next ≡ Some e → goes_to ends next ≡ Some t → ⊥
transition_refused name None next t e fault is = cc is
transition_refused name (Some true) None t e fault is = cc fault
transition_refused name (Some true) (Some next) t e fault is = cc is
transition_refused name (Some false) None t e fault is = cc is
transition_refused name (Some false) (Some next) t e fault is = next_refused (codes "Next") (as_str next) _ t e fault is

-- ---- states

pub pass_refused : (name : List ℕ) (d : Source) (s : Pass) (e : MachineFault) → PassFault name d e → IsPass d s → ⊥
pass_refused name d s e fault is =
    elim fault [
      | inl h ↦ fields_refused at.Pass d e h is.0
      | inr a ↦
          elim a [
            | inl h ↦ template_refused false (codes "Parameters") (get (codes "Parameters") d) s.processing.parameters e h is.1
            | inr b ↦
                elim b [
                  | inl h ↦ processing_refused d s.processing e h is.2
                  | inr f ↦
                      elim f [
                        | inl h ↦ result_refused (get (codes "Result") d) s.result e h is.3
                        | inr h ↦ transition_refused name (end_of_state (get (codes "End") d)) (get (codes "Next") d) s.transition e h is.4
                      ]
                ]
          ]
    ]

pub succeed_refused : (d : Source) (s : Succeed) (e : MachineFault) → SucceedFault d e → IsSucceed d s → ⊥
succeed_refused d s e fault is = elim fault [ inl h ↦ fields_refused at.Succeed d e h is.0 | inr h ↦ processing_refused d s.processing e h is.2 ]

pub wait_refused : (name : List ℕ) (d : Source) (s : Wait) (e : MachineFault) → WaitFault name d e → IsWait d s → ⊥
wait_refused name d s e fault is =
    elim fault [
      | inl h ↦ fields_refused at.Wait d e h is.0
      | inr a ↦ elim a [ inl h ↦ processing_refused d s.processing e h is.2 | inr h ↦ transition_refused name (end_of_state (get (codes "End") d)) (get (codes "Next") d) s.transition e h is.3 ]
    ]

pub fail_refused : (d : Source) (s : Fail) (e : MachineFault) → FailFault d e → IsFail d s → ⊥
fail_refused d s e fault is =
    elim fault [
      | inl h ↦ fields_refused at.Fail d e h is.0
      | inr a ↦
          elim a [ inl h ↦ optional_refused (codes "Error") (get (codes "Error") d) s.error e h is.1 | inr h ↦ optional_refused (codes "Cause") (get (codes "Cause") d) s.cause e h is.2 ]
    ]

pub work_refused : (name : List ℕ) (d : Source) (p : Processing) (h : ErrorHandling) (t : Transition) (e : MachineFault) → WorkFault name d e → HasWork d p h t → ⊥
work_refused name d p h t e fault is =
    elim fault [
      | inl f ↦ processing_refused d p e f is.0
      | inr a ↦
          elim a [ inl f ↦ error_handling_refused d h e f is.1 | inr f ↦ transition_refused name (end_of_state (get (codes "End") d)) (get (codes "Next") d) t e f is.2 ]
    ]

pub resource_text_refused : (name : Option (List ℕ)) (r : Resource) (e : MachineFault) → ResourceTextFault name e → option_and_then resource_named name ≡ Some r → ⊥
resource_text_refused None r e fault is = cc is
resource_text_refused (Some name) r e fault is = let no : None ≡ Some r = sym fault.1 ∙ is in cc

pub resource_refused : (d : Option Source) (r : Resource) (e : MachineFault) → ResourceFault d e → option_and_then resource_named (option_and_then as_str d) ≡ Some r → ⊥
resource_refused None r e fault is = cc is
resource_refused (Some d) r e fault is = resource_text_refused (as_str d) r e fault is

pub task_refused : (name : List ℕ) (d : Source) (s : Task) (e : MachineFault) → TaskFault name d e → IsTask d s → ⊥
task_refused name d s e fault is =
    elim fault [
      | inl h ↦ fields_refused at.Task d e h is.0
      | inr a ↦
          elim a [
            | inl h ↦ resource_refused (get (codes "Resource") d) s.resource e h is.1
            | inr b ↦
                elim b [
                  | inl h ↦ template_refused false (codes "Parameters") (get (codes "Parameters") d) s.processing.parameters e h is.2
                  | inr h ↦ work_refused name d s.processing s.errors s.transition e h is.3
                ]
          ]
    ]

pub default_refused : (d : Option Source) (o : Option (List ℕ)) (e : MachineFault) → optional_text_fault (codes "Default") d ≡ Some e → default_of d ≡ Some o → ⊥
default_refused None o e fault is = cc fault
default_refused (Some d) o e fault is = elim (as_str d) as (λ t. text_fault (codes "Default") t ≡ Some e → option_map Some t ≡ Some o → ⊥) [ None ↦ λ f i. cc i | Some t ↦ λ f i. cc f ] fault is

pub choice_refused : (d : Source) (s : Choice) (e : MachineFault) → ChoiceFault d e → IsChoice d s → ⊥
choice_refused d s e fault is =
    elim fault [
      | inl h ↦ fields_refused at.Choice d e h is.0
      | inr a ↦
          elim a [
            | inl h ↦ rules_refused d s.rules e h is.1
            | inr b ↦ elim b [ inl h ↦ default_refused (get (codes "Default") d) s.default e h is.2 | inr h ↦ processing_refused d s.processing e h is.4 ]
          ]
    ]
