-- Which rule of a Choice state holds (Amazon States Language, "Choice State"): the first whose test does.
use Rattle.std.specs.Prelude.{ℕ, ℤ, List, [], ◌∷◌, Bool, true, false, Option, Some, None, not, is_some, int_lt, int_le, option_map, option_and_then, if◌then◌else◌}
use Rattle.std.specs.Cmp.Lexicographic.{slice_cmp}
use Rattle.std.specs.Ordering.{nat_cmp}
use Rattle.std.specs.declared.cmp.Ordering.{Ordering}
use Rattle.std.specs.declared.cmp.Ordering.TheVariants.{Less, Equal, Greater}
use Rattle.json_tree.specs.Data.{Data, null, boolean, whole, text, list, fields}
use Rattle.asl_fields.specs.Picking.{pick_at}
use Rattle.asl_states.specs.TestTree.{TestTree, TestTrees, all_of, any_of, negation, compare, no_tests, test}
use Rattle.asl_states.specs.TestView.{test_of}
use Rattle.asl_states.specs.declared.choice.Comparison.{Comparison}
use Rattle.asl_states.specs.declared.choice.Comparison.TheVariants as comparison
use Rattle.asl_states.specs.declared.choice.Relation.{Relation}
use Rattle.asl_states.specs.declared.choice.Relation.TheVariants.{Equals, Less as IsLess, Greater as IsGreater, LessOrEqual, GreaterOrEqual}
use Rattle.asl_states.specs.declared.choice.Rule.{Rule}

-- two values in this order stand so to each other
abbrev pub relation_holds : Relation → Ordering → Bool
relation_holds Equals Less = false
relation_holds Equals Equal = true
relation_holds Equals Greater = false
relation_holds IsLess Less = true
relation_holds IsLess Equal = false
relation_holds IsLess Greater = false
relation_holds IsGreater Less = false
relation_holds IsGreater Equal = false
relation_holds IsGreater Greater = true
relation_holds LessOrEqual Less = true
relation_holds LessOrEqual Equal = true
relation_holds LessOrEqual Greater = false
relation_holds GreaterOrEqual Less = false
relation_holds GreaterOrEqual Equal = true
relation_holds GreaterOrEqual Greater = true

-- the order of two numbers
abbrev pub number_order : ℤ → ℤ → Ordering
number_order y z = if int_lt y z then Less else (if int_lt z y then Greater else Equal)

abbrev pub same : Bool → Bool → Bool
same true b = b
same false b = not b

abbrev pub text_stands : Relation → List ℕ → Data → Bool
text_stands r s (text t) = relation_holds r (slice_cmp nat_cmp t s)
text_stands r s _ = false

abbrev pub number_stands : Relation → ℤ → Data → Bool
number_stands r z (whole y) = relation_holds r (number_order y z)
number_stands r z _ = false

abbrev pub is_this_boolean : Bool → Data → Bool
is_this_boolean b (boolean c) = same b c
is_this_boolean b _ = false

abbrev pub is_null : Data → Bool
is_null null = true
is_null _ = false

abbrev pub is_number : Data → Bool
is_number (whole z) = true
is_number _ = false

abbrev pub is_text_data : Data → Bool
is_text_data (text s) = true
is_text_data _ = false

abbrev pub is_boolean : Data → Bool
is_boolean (boolean b) = true
is_boolean _ = false

-- what a comparison says of a value: one of another type is not as it asks
abbrev pub says : Comparison → Data → Bool
says (comparison.Text r s) d = text_stands r s d
says (comparison.Number r z) d = number_stands r z d
says (comparison.Boolean b) d = is_this_boolean b d
says (comparison.IsNull b) d = same b (is_null d)
says (comparison.IsPresent b) d = b
says (comparison.IsNumeric b) d = same b (is_number d)
says (comparison.IsString b) d = same b (is_text_data d)
says (comparison.IsBoolean b) d = same b (is_boolean d)

-- what it says of a variable: nothing, where it is absent and the question isn't whether it is there
abbrev pub asks : Comparison → Option Data → Option Bool
asks (comparison.IsPresent b) None = Some (not b)
asks _ None = None
asks c (Some d) = Some (says c d)

-- Whether a test holds; nothing, where a variable is absent that it comes upon. Tests are taken in their order, to the
-- first that is false of an `And`, and to the first that is true of an `Or`.
abbrev mutual
  pub holds : TestTree → Data → Option Bool
  holds (all_of ts) d = all_hold ts d
  holds (any_of ts) d = any_holds ts d
  holds (negation t) d = option_map not (holds t d)
  holds (compare path c) d = asks c (pick_at path d)

  pub all_hold : TestTrees → Data → Option Bool
  all_hold no_tests d = Some true
  all_hold (test t ts) d = option_and_then (λ b. if b then all_hold ts d else Some false) (holds t d)

  pub any_holds : TestTrees → Data → Option Bool
  any_holds no_tests d = Some false
  any_holds (test t ts) d = option_and_then (λ b. if b then Some true else any_holds ts d) (holds t d)

-- the state that the first rule whose test holds goes to, if any; nothing, where a variable is absent before that
abbrev pub first_rule : List Rule → Data → Option (Option (List ℕ))
first_rule [] d = Some None
first_rule (r ∷ rs) d = option_and_then (λ b. if b then Some (Some r.next) else first_rule rs d) (holds (test_of r.test) d)
