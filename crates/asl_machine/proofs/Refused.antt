-- A definition that has a fault is no machine's.
use Rattle.std.proofs.Common.{◌≡◌, ℕ, zero, suc, List, [], Option, Some, None, true, false, arith, inl, inr, option_and_then, sym, ap, ◌∙◌, refl, codes}
use Rattle.serde_json.specs.Data.{Data as Source, null, boolean, number, string, array, object, Items, no_items, item, Members, no_members, member}
use Rattle.serde_json.specs.Find.{get, as_str, as_array, as_object}
use Rattle.ref_paths.specs.Templates.{Payload}
use Rattle.asl_fields.proofs.FieldsRefused.{fields_refused, template_refused, required_refused}
use Rattle.asl_fields.specs.declared.fault.MachineFault.{MachineFault}
use Rattle.asl_fields.specs.declared.fields.Place.{Place}
use Rattle.asl_fields.specs.declared.fields.Place.TheVariants as at
use Rattle.asl_machine.proofs.OneMachine.{is_pass, is_wait, is_succeed, is_fail, is_task, is_choice, is_parallel, is_map, AreOne, one_members, one_within}
use Rattle.asl_tree.specs.Definition.{StateTree, Definition}
use Rattle.asl_states.specs.Faults.{NamedSelectorFault}
use Rattle.asl_machine.specs.Faults.{BranchFault, BranchesFault, ListedBranchesFault, BranchesFieldFault, ParallelFault, ProcessorObjectFault, ProcessorFault, NamedProcessorFault, MapFault, KindFault, TypeFault, StateFault, StatesFault, StatesFieldFault, RequiredStatesFault, TargetsFault, FaultOver, StatesFaultWithin, DefinitionFault}
use Rattle.asl_states.specs.Profile.{NamedSelector, kind_named}
use Rattle.asl_machine.specs.Profile.{BranchesAre, ListedBranches, IsParallel, IsProcessor, NamedProcessor, IsMap, IsOfKind, IsStateText, StatesAre, MembersAre, states_field, MachineOver, StatesWithin, Defines}
use Rattle.asl_states.specs.Reading.{name_of_two, bound_fault}
use Rattle.asl_tree.specs.Targets.{target_fault}
use Rattle.asl_states.specs.declared.kind.StateKind.{StateKind}
use Rattle.asl_states.specs.declared.kind.StateKind.TheVariants as kind
use Rattle.asl_states.specs.declared.state.Choice.{Choice}
use Rattle.asl_states.specs.declared.state.Fail.{Fail}
use Rattle.asl_tree.specs.declared.state.Map.{Map}
use Rattle.asl_tree.specs.declared.state.Parallel.{Parallel}
use Rattle.asl_states.specs.declared.state.Pass.{Pass}
use Rattle.asl_tree.specs.declared.state.State.{State}
use Rattle.asl_states.specs.declared.state.Succeed.{Succeed}
use Rattle.asl_states.specs.declared.state.Task.{Task}
use Rattle.asl_states.specs.declared.state.Wait.{Wait}
use Rattle.asl_states.proofs.StateRefused.{pass_refused, succeed_refused, wait_refused, fail_refused, work_refused, task_refused, choice_refused}

-- ---- states that hold machines: where an object with a fault is no machine's

abbrev pub IsRefused : (Place → Source → MachineFault → Type 0) → (Place → Source → Definition → Type 0) → Type 0
IsRefused F P = (place : Place) (d : Source) (m : Definition) (e : MachineFault) → F place d e → P place d m → ⊥

-- a machine's definition is an object
abbrev pub IsObject : (Place → Source → Definition → Type 0) → Type 0
IsObject P = (place : Place) (d : Source) (m : Definition) → as_object d ≡ None → P place d m → ⊥

module _ (F : Place → Source → MachineFault → Type 0) (P : Place → Source → Definition → Type 0) (refused : IsRefused F P) (objects : IsObject P) where
  branch_refused : (d : Source) (ms : Option Members) (m : Definition) (e : MachineFault) → as_object d ≡ ms → BranchFault F d ms e → P at.Branch d m → ⊥
  branch_refused d None m e found fault is = objects at.Branch d m found is
  branch_refused d (Some ms) m e found fault is = refused at.Branch d m e fault is

  branches_refused : (ds : Items) (before ms : List Definition) (e : MachineFault) → BranchesFault F ds e → BranchesAre P ds before ms → ⊥
  branches_refused no_items before ms e fault is = fault
  branches_refused (item d ds) before ms e fault is =
      elim fault [ inl h ↦ branch_refused d (as_object d) is.0 e refl h is.1 | inr h ↦ branches_refused ds _ ms e h is.2 ]

  list_refused : (ds : Option Items) (ms : List Definition) (e : MachineFault) → ListedBranchesFault F ds e → ListedBranches P ds ms → ⊥
  list_refused None ms e fault is = is
  list_refused (Some ds) ms e fault is =
      elim fault [ inl h ↦ branches_refused ds [] ms e h is.0 | inr h ↦ absurd (omega (arith, h.1, is.1)) ]

  branches_field_refused : (d : Option Source) (ms : List Definition) (e : MachineFault) → BranchesFieldFault F d e → ListedBranches P (option_and_then as_array d) ms → ⊥
  branches_field_refused None ms e fault is = is
  branches_field_refused (Some d) ms e fault is = list_refused (as_array d) ms e fault is

  parallel_refused : (name : List ℕ) (d : Source) (s : Parallel) (e : MachineFault) → ParallelFault F name d e → IsParallel P d s → ⊥
  parallel_refused name d s e fault is =
      elim fault [
        | inl h ↦ fields_refused at.Parallel d e h is.0
        | inr a ↦
            elim a [
              | inl h ↦ template_refused false (codes "Parameters") (get (codes "Parameters") d) s.processing.parameters e h is.1
              | inr b ↦
                  elim b [
                    | inl h ↦ work_refused name d s.processing s.errors s.transition e h is.2
                    | inr h ↦ branches_field_refused (get (codes "Branches") d) s.branches e h is.3
                  ]
            ]
      ]

  processor_object_refused : (field : List ℕ) (d : Source) (ms : Option Members) (m : Definition) (e : MachineFault) → as_object d ≡ ms → ProcessorObjectFault F field d ms e → IsProcessor P (Some d) m → ⊥
  processor_object_refused field d None m e found fault is = objects at.Processor d m found is.1
  processor_object_refused field d (Some ms) m e found fault is =
      elim fault [ inl h ↦ let no : None ≡ Some e = sym is.0 ∙ h in cc | inr h ↦ refused at.Processor d m e h is.1 ]

  processor_refused : (field : List ℕ) (d : Option Source) (m : Definition) (e : MachineFault) → ProcessorFault F field d e → IsProcessor P d m → ⊥
  processor_refused field None m e fault is = is
  processor_refused field (Some d) m e fault is = processor_object_refused field d (as_object d) m e refl fault is

  named_processor_refused : (d : Source) (name : Option (List ℕ)) (m : Definition) (e : MachineFault) → NamedProcessorFault F d name e → NamedProcessor P d name m → ⊥
  named_processor_refused d None m e fault is = is
  named_processor_refused d (Some name) m e fault is = processor_refused name (get name d) m e fault is

  selector_refused : (d : Source) (name : Option (List ℕ)) (p : Option Payload) (e : MachineFault) → NamedSelectorFault d name e → NamedSelector d name p → ⊥
  selector_refused d None p e fault is = is
  selector_refused d (Some name) p e fault is = template_refused true name (get name d) p e fault is

  map_refused : (name : List ℕ) (d : Source) (s : Map) (e : MachineFault) → MapFault F name d e → IsMap P d s → ⊥
  map_refused name d s e fault is =
      elim fault [
        | inl h ↦ fields_refused at.Map d e h is.0
        | inr a ↦
            elim a [
              | inl h ↦ let no : None ≡ Some e = ap bound_fault (sym is.1) ∙ h in cc
              | inr b ↦
                  elim b [
                    | inl h ↦ h.1 s.items_path is.2
                    | inr c ↦
                        elim c [
                          | inl h ↦ selector_refused d (name_of_two (codes "ItemSelector") (codes "Parameters") d) s.item_selector e h is.3
                          | inr f ↦
                              elim f [
                                | inl h ↦ work_refused name d s.processing s.errors s.transition e h is.5
                                | inr h ↦ named_processor_refused d (name_of_two (codes "ItemProcessor") (codes "Iterator") d) s.processor e h is.6
                              ]
                        ]
                  ]
            ]
      ]

  kind_refused : (name : List ℕ) (k : Option StateKind) (d : Source) (s : State) (e : MachineFault) → KindFault F name k d e → IsOfKind P k d s → ⊥
  kind_refused name (Some kind.Pass) d s e fault is = let p = is_pass d s is in pass_refused name d p.0 e fault p.2
  kind_refused name (Some kind.Task) d s e fault is = let p = is_task d s is in task_refused name d p.0 e fault p.2
  kind_refused name (Some kind.Choice) d s e fault is = let p = is_choice d s is in choice_refused d p.0 e fault p.2
  kind_refused name (Some kind.Succeed) d s e fault is = let p = is_succeed d s is in succeed_refused d p.0 e fault p.2
  kind_refused name (Some kind.Wait) d s e fault is = let p = is_wait d s is in wait_refused name d p.0 e fault p.2
  kind_refused name (Some kind.Fail) d s e fault is = let p = is_fail d s is in fail_refused d p.0 e fault p.2
  kind_refused name (Some kind.Parallel) d s e fault is = let p = is_parallel P d s is in parallel_refused name d p.0 e fault p.2
  kind_refused name (Some kind.Map) d s e fault is = let p = is_map P d s is in map_refused name d p.0 e fault p.2
  kind_refused name None d s e fault is = is

  type_refused : (name : List ℕ) (d : Source) (type : Option (List ℕ)) (s : State) (e : MachineFault) → TypeFault F name d type e → IsOfKind P (option_and_then kind_named type) d s → ⊥
  type_refused name d None s e fault is = is
  type_refused name d (Some type) s e fault is = kind_refused name (kind_named type) d s e fault is

  state_refused : (name : List ℕ) (d : Source) (s : State) (e : MachineFault) → StateFault F name d e → IsStateText P d s → ⊥
  state_refused name null s e fault is = is
  state_refused name (boolean b) s e fault is = is
  state_refused name (number n) s e fault is = is
  state_refused name (string t) s e fault is = is
  state_refused name (array ds) s e fault is = is
  state_refused name (object ms) s e fault is = type_refused name (object ms) (option_and_then as_str (get (codes "Type") (object ms))) s e fault is

  states_refused : (ms : Members) (before ss : List (List ℕ × StateTree)) (e : MachineFault) → StatesFault F ms e → StatesAre P ms before ss → ⊥
  states_refused no_members before ss e fault is = fault
  states_refused (member name d ms) before ss e fault is =
      elim fault [ inl h ↦ state_refused name d is.0 e h is.1 | inr h ↦ states_refused ms _ ss e h is.2 ]

-- ---- machines

-- where a `States` object with a fault has no states
abbrev pub AreRefused : (Members → MachineFault → Type 0) → (Members → List (List ℕ × StateTree) → Type 0) → Type 0
AreRefused F S = (ms : Members) (ss : List (List ℕ × StateTree)) (e : MachineFault) → F ms e → S ms ss → ⊥

module _ (F : Members → MachineFault → Type 0) (S : Members → List (List ℕ × StateTree) → Type 0) (refused : AreRefused F S) (one : AreOne S) where
  members_field_refused : (ms : Option Members) (ss : List (List ℕ × StateTree)) (e : MachineFault) → StatesFieldFault F ms e → MembersAre S ms ss → ⊥
  members_field_refused None ss e fault is = is
  members_field_refused (Some ms) ss e fault is = refused ms ss e fault is

  states_field_refused : (d : Option Source) (ss : List (List ℕ × StateTree)) (e : MachineFault) → RequiredStatesFault F d e → MembersAre S (option_and_then as_object d) ss → ⊥
  states_field_refused None ss e fault is = is
  states_field_refused (Some d) ss e fault is = members_field_refused (as_object d) ss e fault is

  targets_refused : (place : Place) (d : Source) (m : Definition) (e : MachineFault) → TargetsFault S d e → MachineOver S place d m → ⊥
  targets_refused place d m e fault is =
      let starts : Some fault.0 ≡ Some m.start = sym fault.2 ∙ is.1 in
      let start : fault.0 ≡ m.start = cc in
      let states : fault.1 ≡ m.states = one_members S one (states_field d) fault.1 m.states fault.3 is.2 in
      let none : None ≡ Some e = sym is.3 ∙ ap (λ a. target_fault a m.states) (sym start) ∙ ap (λ b. target_fault fault.0 b) (sym states) ∙ fault.4 in
      cc

  over_refused : (place : Place) (d : Source) (m : Definition) (e : MachineFault) → FaultOver F S place d e → MachineOver S place d m → ⊥
  over_refused place d m e fault is =
      elim fault [
        | inl h ↦ fields_refused place d e h is.0
        | inr a ↦
            elim a [
              | inl h ↦ required_refused (codes "StartAt") (get (codes "StartAt") d) m.start e h is.1
              | inr b ↦ elim b [ inl h ↦ states_field_refused (get (codes "States") d) m.states e h is.2 | inr h ↦ targets_refused place d m e h is ]
            ]
      ]

over_objects : (S : Members → List (List ℕ × StateTree) → Type 0) (place : Place) (d : Source) (m : Definition) → as_object d ≡ None → MachineOver S place d m → ⊥
over_objects S place null m none is = let no : false ≡ true = is.0.0 in cc
over_objects S place (boolean b) m none is = let no : false ≡ true = is.0.0 in cc
over_objects S place (number n) m none is = let no : false ≡ true = is.0.0 in cc
over_objects S place (string s) m none is = let no : false ≡ true = is.0.0 in cc
over_objects S place (array ds) m none is = let no : false ≡ true = is.0.0 in cc
over_objects S place (object ms) m none is = cc none

within_refused : (levels : ℕ) (ms : Members) (ss : List (List ℕ × StateTree)) (e : MachineFault) → StatesFaultWithin levels ms e → StatesWithin levels ms ss → ⊥
within_refused zero ms ss e fault is = is
within_refused (suc levels) ms ss e fault is =
    states_refused (FaultOver (StatesFaultWithin levels) (StatesWithin levels)) (MachineOver (StatesWithin levels))
    (over_refused (StatesFaultWithin levels) (StatesWithin levels) (within_refused levels) (one_within levels)) (over_objects (StatesWithin levels)) ms [] ss e fault is

pub definition_refused : (d : Source) (e : MachineFault) → DefinitionFault d e → (m : Definition) → Defines d m → ⊥
definition_refused null e fault m is = over_objects (StatesWithin 32) at.Top null m refl is
definition_refused (boolean b) e fault m is = over_objects (StatesWithin 32) at.Top (boolean b) m refl is
definition_refused (number n) e fault m is = over_objects (StatesWithin 32) at.Top (number n) m refl is
definition_refused (string s) e fault m is = over_objects (StatesWithin 32) at.Top (string s) m refl is
definition_refused (array ds) e fault m is = over_objects (StatesWithin 32) at.Top (array ds) m refl is
definition_refused (object ms) e fault m is = over_refused (StatesFaultWithin 32) (StatesWithin 32) (within_refused 32) (one_within 32) at.Top (object ms) m e fault is
