-- The faults of the rules of a Choice. A test's fault may lie some tests deep.
use Rattle.std.specs.Prelude.{◌≡◌, ℕ, zero, suc, List, ◌⊎◌, Option, None, Some, option_and_then, codes}
use Rattle.serde_json.specs.Data.{Data as Source, Items, no_items, item, Members}
use Rattle.serde_json.specs.Find.{get, as_array, as_object}
use Rattle.asl_fields.specs.PathStep.{PathStep}
use Rattle.asl_fields.specs.FieldFaults.{FieldsFault, required_text_fault}
use Rattle.asl_fields.specs.Values.{IsPathField}
use Rattle.asl_fields.specs.declared.fault.MachineFault.{MachineFault}
use Rattle.asl_fields.specs.declared.fault.MachineFault.TheVariants.{Missing, BadField}
use Rattle.asl_fields.specs.declared.fields.Place.{Place}
use Rattle.asl_fields.specs.declared.fields.Place.TheVariants as at
use Rattle.asl_states.specs.TestFields.{Asked, comparison_said, first_asked, asked_by, test_form_of}
use Rattle.asl_states.specs.declared.test_readers.TestForm.{TestForm}
use Rattle.asl_states.specs.declared.test_readers.TestForm.TheVariants.{And, Or, Not, Compare}

-- ---- what is a fault of an inner test, `F` says, of a place, the field that holds the test, and the test

abbrev pub SomeTestFault : (Place → List ℕ → Source → MachineFault → Type 0) → List ℕ → Items → MachineFault → Type 0
SomeTestFault F field no_items e = ⊥
SomeTestFault F field (item d ds) e = F at.Test field d e ⊎ SomeTestFault F field ds e

-- no list, an empty one, or one with a fault in a test
abbrev pub ListedTestsFault : (Place → List ℕ → Source → MachineFault → Type 0) → List ℕ → Option Items → MachineFault → Type 0
ListedTestsFault F field None e = e ≡ BadField field
ListedTestsFault F field (Some no_items) e = e ≡ BadField field
ListedTestsFault F field (Some (item d ds)) e = SomeTestFault F field (item d ds) e

abbrev pub TestsFieldFault : (Place → List ℕ → Source → MachineFault → Type 0) → List ℕ → Option Source → MachineFault → Type 0
TestsFieldFault F field None e = e ≡ BadField (codes "Choices")
TestsFieldFault F field (Some d) e = ListedTestsFault F field (as_array d) e

abbrev pub NotFault : (Place → List ℕ → Source → MachineFault → Type 0) → Option Source → MachineFault → Type 0
NotFault F None e = e ≡ BadField (codes "Choices")
NotFault F (Some d) e = F at.Test (codes "Not") d e

-- it is no path, nor may it be `null`
abbrev pub VariableFault : Option Source → MachineFault → Type 0
VariableFault d e = (e ≡ BadField (codes "Variable")) × ((p : List PathStep) → IsPathField d (Some p) → ⊥)

abbrev pub ComparisonFault : Option Asked → MachineFault → Type 0
ComparisonFault None e = e ≡ BadField (codes "Choices")
ComparisonFault (Some a) e = (e ≡ BadField a.1) × (comparison_said a.0 a.2 ≡ None)

abbrev pub CompareFault : Source → MachineFault → Type 0
CompareFault d e = VariableFault (get (codes "Variable") d) e ⊎ ComparisonFault (first_asked (asked_by d)) e

abbrev pub FormFault : (Place → List ℕ → Source → MachineFault → Type 0) → Option TestForm → Source → MachineFault → Type 0
FormFault F None d e = e ≡ BadField (codes "Choices")
FormFault F (Some And) d e = TestsFieldFault F (codes "And") (get (codes "And") d) e
FormFault F (Some Or) d e = TestsFieldFault F (codes "Or") (get (codes "Or") d) e
FormFault F (Some Not) d e = NotFault F (get (codes "Not") d) e
FormFault F (Some Compare) d e = CompareFault d e

abbrev pub ObjectTestFault : (Place → List ℕ → Source → MachineFault → Type 0) → Place → List ℕ → Source → Option Members → MachineFault → Type 0
ObjectTestFault F place field d None e = e ≡ BadField field
ObjectTestFault F place field d (Some ms) e = FieldsFault place d e ⊎ FormFault F (test_form_of d) d e

abbrev pub no_fault : Place → List ℕ → Source → MachineFault → Type 0
no_fault place field d e = ⊥

-- ---- tests

-- a fault of a test that lies at most so many tests deep
abbrev pub TestFaultWithin : ℕ → Place → List ℕ → Source → MachineFault → Type 0
TestFaultWithin zero place field d e = ObjectTestFault no_fault place field d (as_object d) e
TestFaultWithin (suc n) place field d e = ObjectTestFault (TestFaultWithin n) place field d (as_object d) e

-- a fault of a test, which the field holds
abbrev pub TestFault : Place → List ℕ → Source → MachineFault → Type 0
TestFault place field d e = (n : ℕ) × TestFaultWithin n place field d e

-- ---- rules

abbrev pub RuleFault : Source → MachineFault → Type 0
RuleFault d e = TestFault at.Rule (codes "Choices") d e ⊎ (required_text_fault (codes "Next") (get (codes "Next") d) ≡ Some e)

abbrev pub SomeRuleFault : Items → MachineFault → Type 0
SomeRuleFault no_items e = ⊥
SomeRuleFault (item d ds) e = RuleFault d e ⊎ SomeRuleFault ds e

abbrev pub ListedRulesFault : Option Items → MachineFault → Type 0
ListedRulesFault None e = e ≡ BadField (codes "Choices")
ListedRulesFault (Some no_items) e = e ≡ BadField (codes "Choices")
ListedRulesFault (Some (item d ds)) e = SomeRuleFault (item d ds) e

abbrev pub ChoicesFault : Option Source → MachineFault → Type 0
ChoicesFault None e = e ≡ Missing (codes "Choices")
ChoicesFault (Some d) e = ListedRulesFault (as_array d) e
