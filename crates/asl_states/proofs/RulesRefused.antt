-- Rules that have a fault are no rules.
use Rattle.std.proofs.Common.{◌≡◌, ℕ, zero, suc, List, [], Option, Some, None, true, false, inl, inr, refl, sym, ap, ◌∙◌, codes, option_and_then}
use Rattle.serde_json.specs.Data.{Data as Source, Items, no_items, item, Members}
use Rattle.serde_json.specs.Find.{get, as_array, as_object}
use Rattle.asl_fields.proofs.FieldsRefused.{fields_refused, required_refused}
use Rattle.asl_fields.specs.Fields.{known_in}
use Rattle.asl_fields.specs.declared.fault.MachineFault.{MachineFault}
use Rattle.asl_fields.specs.declared.fields.Place.{Place}
use Rattle.asl_fields.specs.declared.fields.Place.TheVariants as at
use Rattle.asl_states.specs.TestFaults.{SomeTestFault, ListedTestsFault, TestsFieldFault, NotFault, ComparisonFault, FormFault, ObjectTestFault, no_fault, TestFaultWithin, TestFault, RuleFault, SomeRuleFault, ListedRulesFault, ChoicesFault}
use Rattle.asl_states.specs.TestFields.{Asked, first_asked, asked_by, comparison_asked, test_form_of, IsTest, IsOfForm, IsInnerTest, ListedTests, TestsAre, IsRule, RulesAre, ListedRules, AreRules}
use Rattle.asl_states.specs.TestTree.{TestTree, all_of, any_of, negation, compare, TestTrees, no_tests, test}
use Rattle.asl_states.specs.TestView.{test_of}
use Rattle.asl_states.specs.declared.choice.Comparison.{Comparison}
use Rattle.asl_states.specs.declared.choice.Rule.{Rule}
use Rattle.asl_states.specs.declared.test_readers.TestForm.{TestForm}
use Rattle.asl_states.specs.declared.test_readers.TestForm.TheVariants.{And, Or, Not, Compare}

asked_refused : (a : Option Asked) (c : Comparison) (e : MachineFault) → ComparisonFault a e → comparison_asked a ≡ Some c → ⊥
asked_refused None c e fault is = cc is
asked_refused (Some a) c e fault is = let no : None ≡ Some c = sym fault.1 ∙ is in cc

abbrev pub IsTestRefused : (Place → List ℕ → Source → MachineFault → Type 0) → Type 0
IsTestRefused F = (place : Place) (field : List ℕ) (d : Source) (t : TestTree) (e : MachineFault) → F place field d e → IsTest place d t → ⊥

module _ (F : Place → List ℕ → Source → MachineFault → Type 0) (refused : IsTestRefused F) where
  some_refused : (field : List ℕ) (ds : Items) (ts : TestTrees) (e : MachineFault) → SomeTestFault F field ds e → TestsAre ds ts → ⊥
  some_refused field no_items ts e fault is = fault
  some_refused field (item d ds) no_tests e fault is = is
  some_refused field (item d ds) (test t ts) e fault is = elim fault [ inl h ↦ refused at.Test field d t e h is.0 | inr h ↦ some_refused field ds ts e h is.1 ]

  listed_refused : (field : List ℕ) (ds : Option Items) (ts : TestTrees) (e : MachineFault) → ListedTestsFault F field ds e → ListedTests ds ts → ⊥
  listed_refused field None ts e fault is = is
  listed_refused field (Some no_items) ts e fault is = is
  listed_refused field (Some (item d ds)) ts e fault is = some_refused field (item d ds) ts e fault is

  field_refused : (field : List ℕ) (d : Option Source) (ts : TestTrees) (e : MachineFault) → TestsFieldFault F field d e → ListedTests (option_and_then as_array d) ts → ⊥
  field_refused field None ts e fault is = is
  field_refused field (Some d) ts e fault is = listed_refused field (as_array d) ts e fault is

  not_refused : (d : Option Source) (t : TestTree) (e : MachineFault) → NotFault F d e → IsInnerTest d t → ⊥
  not_refused None t e fault is = is
  not_refused (Some d) t e fault is = refused at.Test (codes "Not") d t e fault is

  form_refused : (form : Option TestForm) (d : Source) (t : TestTree) (e : MachineFault) → FormFault F form d e → IsOfForm form d t → ⊥
  form_refused (Some And) d (all_of ts) e fault is = field_refused (codes "And") (get (codes "And") d) ts e fault is
  form_refused (Some Or) d (any_of ts) e fault is = field_refused (codes "Or") (get (codes "Or") d) ts e fault is
  form_refused (Some Not) d (negation t) e fault is = not_refused (get (codes "Not") d) t e fault is
  form_refused (Some Compare) d (compare p c) e fault is =
      elim fault [ inl h ↦ h.1 p is.0 | inr h ↦ asked_refused (first_asked (asked_by d)) c e h is.1 ]
  form_refused None d t e fault is = is
  form_refused (Some And) d (any_of ts) e fault is = is
  form_refused (Some And) d (negation t) e fault is = is
  form_refused (Some And) d (compare p c) e fault is = is
  form_refused (Some Or) d (all_of ts) e fault is = is
  form_refused (Some Or) d (negation t) e fault is = is
  form_refused (Some Or) d (compare p c) e fault is = is
  form_refused (Some Not) d (all_of ts) e fault is = is
  form_refused (Some Not) d (any_of ts) e fault is = is
  form_refused (Some Not) d (compare p c) e fault is = is
  form_refused (Some Compare) d (all_of ts) e fault is = is
  form_refused (Some Compare) d (any_of ts) e fault is = is
  form_refused (Some Compare) d (negation t) e fault is = is

  object_refused : (place : Place) (field : List ℕ) (d : Source) (ms : Option Members) (t : TestTree) (e : MachineFault) → as_object d ≡ ms → ObjectTestFault F place field d ms e → IsTest place d t → ⊥
  object_refused place field d None t e found fault is = let no : false ≡ true = ap (known_in place) (sym found) ∙ is.0.0 in cc
  object_refused place field d (Some ms) t e found fault is =
      elim fault [ inl h ↦ fields_refused place d e h is.0 | inr h ↦ form_refused (test_form_of d) d t e h is.1 ]

nothing_refused : IsTestRefused no_fault
nothing_refused place field d t e fault is = fault

within_refused : (n : ℕ) (place : Place) (field : List ℕ) (d : Source) (t : TestTree) (e : MachineFault) → TestFaultWithin n place field d e → IsTest place d t → ⊥
within_refused zero place field d t e fault is = object_refused no_fault nothing_refused place field d (as_object d) t e refl fault is
within_refused (suc n) place field d t e fault is = object_refused (TestFaultWithin n) (within_refused n) place field d (as_object d) t e refl fault is

-- ---- rules

rule_refused : (d : Source) (r : Rule) (e : MachineFault) → RuleFault d e → IsRule d r → ⊥
rule_refused d r e fault is =
    elim fault [
      | inl h ↦ within_refused h.0 at.Rule (codes "Choices") d (test_of r.test) e h.1 is.0
      | inr h ↦ required_refused (codes "Next") (get (codes "Next") d) r.next e h is.1
    ]

each_refused : (ds : Items) (before rs : List Rule) (e : MachineFault) → SomeRuleFault ds e → RulesAre ds before rs → ⊥
each_refused no_items before rs e fault is = fault
each_refused (item d ds) before rs e fault is = elim fault [ inl h ↦ rule_refused d is.0 e h is.1 | inr h ↦ each_refused ds _ rs e h is.2 ]

listed_rules_refused : (ds : Option Items) (rs : List Rule) (e : MachineFault) → ListedRulesFault ds e → ListedRules ds rs → ⊥
listed_rules_refused None rs e fault is = is
listed_rules_refused (Some no_items) rs e fault is = is
listed_rules_refused (Some (item d ds)) rs e fault is = each_refused (item d ds) [] rs e fault is

choices_refused : (d : Option Source) (rs : List Rule) (e : MachineFault) → ChoicesFault d e → ListedRules (option_and_then as_array d) rs → ⊥
choices_refused None rs e fault is = is
choices_refused (Some d) rs e fault is = listed_rules_refused (as_array d) rs e fault is

pub rules_refused : (d : Source) (rs : List Rule) (e : MachineFault) → ChoicesFault (get (codes "Choices") d) e → AreRules d rs → ⊥
rules_refused d rs e fault is = choices_refused (get (codes "Choices") d) rs e fault is
