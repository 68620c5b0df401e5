-- What the rules of a Choice say ("Choice State", "Boolean expression", "Data-Test Expression").
use Rattle.std.specs.Prelude.{◌≡◌, ℕ, Bool, true, false, List, [], ◌∷◌, ◌++◌, Option, None, Some, is_some, option_map, option_and_then, if◌then◌else◌, codes, ⊤}
use Rattle.serde_json.specs.Data.{Data as Source, Items, no_items, item, Members, no_members, member}
use Rattle.serde_json.specs.Find.{get, as_str, as_bool, as_number, as_i64, as_array, as_object}
use Rattle.asl_fields.specs.PathStep.{PathStep}
use Rattle.asl_fields.specs.Fields.{is_text}
use Rattle.asl_fields.specs.Values.{HasFields, IsPathField}
use Rattle.asl_fields.specs.declared.fields.Place.{Place}
use Rattle.asl_fields.specs.declared.fields.Place.TheVariants as at
use Rattle.asl_states.specs.TestTree.{TestTree, all_of, any_of, negation, compare, TestTrees, no_tests, test, test_trees}
use Rattle.asl_states.specs.TestView.{test_of}
use Rattle.asl_states.specs.declared.choice.Comparison.{Comparison}
use Rattle.asl_states.specs.declared.choice.Comparison.TheVariants as says
use Rattle.asl_states.specs.declared.choice.Relation.{Relation}
use Rattle.asl_states.specs.declared.choice.Relation.TheVariants.{Equals, Less, Greater, LessOrEqual, GreaterOrEqual}
use Rattle.asl_states.specs.declared.choice.Rule.{Rule}
use Rattle.asl_states.specs.declared.comparison_kind.ComparisonKind.{ComparisonKind}
use Rattle.asl_states.specs.declared.comparison_kind.ComparisonKind.TheVariants as kind
use Rattle.asl_states.specs.declared.test_readers.TestForm.{TestForm}
use Rattle.asl_states.specs.declared.test_readers.TestForm.TheVariants.{And, Or, Not, Compare}

-- ---- comparisons

abbrev pub comparison_named : List ℕ → Option ComparisonKind
comparison_named name =
    if is_text name (codes "StringEquals") then Some (kind.Text Equals)
    else (if is_text name (codes "StringLessThan") then Some (kind.Text Less)
    else (if is_text name (codes "StringGreaterThan") then Some (kind.Text Greater)
    else (if is_text name (codes "StringLessThanEquals") then Some (kind.Text LessOrEqual)
    else (if is_text name (codes "StringGreaterThanEquals") then Some (kind.Text GreaterOrEqual)
    else (if is_text name (codes "NumericEquals") then Some (kind.Number Equals)
    else (if is_text name (codes "NumericLessThan") then Some (kind.Number Less)
    else (if is_text name (codes "NumericGreaterThan") then Some (kind.Number Greater)
    else (if is_text name (codes "NumericLessThanEquals") then Some (kind.Number LessOrEqual)
    else (if is_text name (codes "NumericGreaterThanEquals") then Some (kind.Number GreaterOrEqual)
    else (if is_text name (codes "BooleanEquals") then Some kind.Boolean
    else (if is_text name (codes "IsNull") then Some kind.IsNull
    else (if is_text name (codes "IsPresent") then Some kind.IsPresent
    else (if is_text name (codes "IsNumeric") then Some kind.IsNumeric
    else (if is_text name (codes "IsString") then Some kind.IsString
    else (if is_text name (codes "IsBoolean") then Some kind.IsBoolean
    else None)))))))))))))))

-- what a comparison of this kind asks for; its value is of the kind's own
abbrev pub comparison_said : ComparisonKind → Source → Option Comparison
comparison_said (kind.Text relation) d = option_map (says.Text relation) (as_str d)
comparison_said (kind.Number relation) d = option_map (says.Number relation) (option_and_then as_i64 (as_number d))
comparison_said kind.Boolean d = option_map says.Boolean (as_bool d)
comparison_said kind.IsNull d = option_map says.IsNull (as_bool d)
comparison_said kind.IsPresent d = option_map says.IsPresent (as_bool d)
comparison_said kind.IsNumeric d = option_map says.IsNumeric (as_bool d)
comparison_said kind.IsString d = option_map says.IsString (as_bool d)
comparison_said kind.IsBoolean d = option_map says.IsBoolean (as_bool d)

-- a comparison that stands: its kind, its name and its value
abbrev pub Asked : Type 0
Asked = ComparisonKind × List ℕ × Source

abbrev pub with_asked : Option ComparisonKind → List ℕ → Source → List Asked → List Asked
with_asked None name d rest = rest
with_asked (Some k) name d rest = (k, name, d) ∷ rest

-- the comparisons among an object's members
abbrev pub asked_in : Members → List Asked
asked_in no_members = []
asked_in (member name d ms) = with_asked (comparison_named name) name d (asked_in ms)

abbrev pub asked_by_object : Option Members → List Asked
asked_by_object None = []
asked_by_object (Some ms) = asked_in ms

abbrev pub asked_by : Source → List Asked
asked_by d = asked_by_object (as_object d)

abbrev pub first_asked : List Asked → Option Asked
first_asked [] = None
first_asked (a ∷ rest) = Some a

abbrev pub is_often : List Asked → Bool
is_often [] = false
is_often (a ∷ []) = false
is_often (a ∷ b ∷ rest) = true

abbrev pub comparison_asked : Option Asked → Option Comparison
comparison_asked None = None
comparison_asked (Some a) = comparison_said a.0 a.2

-- ---- tests

-- exactly one of the four stands, and a comparison just beside `Variable`
abbrev pub test_form_in : Bool → Bool → Bool → Bool → Bool → Option TestForm
test_form_in true false false false false = Some And
test_form_in false true false false false = Some Or
test_form_in false false true false false = Some Not
test_form_in false false false true true = Some Compare
test_form_in _ _ _ _ _ = None

abbrev pub test_form_of : Source → Option TestForm
test_form_of d =
    if is_often (asked_by d) then None
    else test_form_in (is_some (get (codes "And") d)) (is_some (get (codes "Or") d)) (is_some (get (codes "Not") d)) (is_some (get (codes "Variable") d)) (is_some (first_asked (asked_by d)))

-- a field that stands
abbrev pub OnField : (Source → Type 0) → Option Source → Type 0
OnField P None = ⊥
OnField P (Some d) = P d

-- a list that isn't empty
abbrev pub OnItems : (Items → Type 0) → Option Items → Type 0
OnItems P None = ⊥
OnItems P (Some no_items) = ⊥
OnItems P (Some (item d ds)) = P (item d ds)

abbrev mutual
  -- the test of an object of this form
  pub IsOfForm : Option TestForm → Source → TestTree → Type 0
  IsOfForm (Some And) d (all_of ts) = OnItems (λ ds. TestsAre ds ts) (option_and_then as_array (get (codes "And") d))
  IsOfForm (Some Or) d (any_of ts) = OnItems (λ ds. TestsAre ds ts) (option_and_then as_array (get (codes "Or") d))
  IsOfForm (Some Not) d (negation t) = OnField (λ e. HasFields at.Test e × IsOfForm (test_form_of e) e t) (get (codes "Not") d)
  IsOfForm (Some Compare) d (compare path c) = IsPathField (get (codes "Variable") d) (Some path) × (comparison_asked (first_asked (asked_by d)) ≡ Some c)
  IsOfForm _ d t = ⊥

  pub TestsAre : Items → TestTrees → Type 0
  TestsAre no_items no_tests = ⊤
  TestsAre (item d ds) (test t ts) = (HasFields at.Test d × IsOfForm (test_form_of d) d t) × TestsAre ds ts
  TestsAre _ _ = ⊥

-- the test of an object at a place
abbrev pub IsTest : Place → Source → TestTree → Type 0
IsTest place d t = HasFields place d × IsOfForm (test_form_of d) d t

abbrev pub IsInnerTest : Option Source → TestTree → Type 0
IsInnerTest d t = OnField (λ e. IsTest at.Test e t) d

abbrev pub ListedTests : Option Items → TestTrees → Type 0
ListedTests ds ts = OnItems (λ es. TestsAre es ts) ds

-- ---- rules

abbrev pub IsRule : Source → Rule → Type 0
IsRule d r = IsTest at.Rule d (test_of r.test) × (option_and_then as_str (get (codes "Next") d) ≡ Some r.next)

abbrev pub RulesAre : Items → List Rule → List Rule → Type 0
RulesAre no_items before rs = rs ≡ before
RulesAre (item d ds) before rs = (r : Rule) × IsRule d r × RulesAre ds (before ++ r ∷ []) rs

-- the rules of a Choice, at least one
abbrev pub ListedRules : Option Items → List Rule → Type 0
ListedRules ds rs = OnItems (λ es. RulesAre es [] rs) ds

abbrev pub AreRules : Source → List Rule → Type 0
AreRules d rs = ListedRules (option_and_then as_array (get (codes "Choices") d)) rs
