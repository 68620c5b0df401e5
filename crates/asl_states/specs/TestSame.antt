-- Equality of rules: that of their tests, at each place, and of the states that they go to.
use Rattle.std.specs.Prelude.{◌≡◌, ℕ, Bool, true, false, ◌&&◌, List, [], ◌∷◌, ◌==◌, refl}
use Rattle.std.proofs.Common.{ap}
use Rattle.std.specs.Bool.{beq}
use Rattle.std.specs.Cmp.{unsigned_Decides, signed_Decides, booleans_Decides}
use Rattle.std.specs.Cmp.Derive.{both_true}
use Rattle.std.specs.Ordering.{int_eq}
use lib.Pointwise.{pointwise}
use Rattle.asl_fields.specs.Same.{same_text, same_payload_path, IsExact, exact, first_true, second_true, text_exact, path_exact, list_exact}
use Rattle.asl_states.specs.TestTree.{TestTree, all_of, any_of, negation, compare, TestTrees, no_tests, test, test_trees}
use Rattle.asl_states.specs.TestView.{test_of}
use Rattle.asl_states.specs.declared.choice.Comparison.{Comparison}
use Rattle.asl_states.specs.declared.choice.Comparison.TheVariants as comparison
use Rattle.asl_states.specs.declared.choice.Relation.{Relation}
use Rattle.asl_states.specs.declared.choice.Relation.TheVariants.{Equals, Less, Greater, LessOrEqual, GreaterOrEqual}
use Rattle.asl_states.specs.declared.choice.Rule.{Rule}
use Rattle.asl_states.specs.declared.choice.Test.{Test}
use Rattle.asl_states.specs.declared.choice.Test.TheVariants.{And, Or, Not, Compare}

abbrev pub relation_number : Relation → ℕ
relation_number Equals = 0
relation_number Less = 1
relation_number Greater = 2
relation_number LessOrEqual = 3
relation_number GreaterOrEqual = 4

abbrev pub same_relation : Relation → Relation → Bool
same_relation r s = relation_number r == relation_number s

abbrev pub same_comparison : Comparison → Comparison → Bool
same_comparison (comparison.Text r s) (comparison.Text q t) = same_relation r q && same_text s t
same_comparison (comparison.Number r y) (comparison.Number q z) = same_relation r q && int_eq y z
same_comparison (comparison.Boolean b) (comparison.Boolean c) = beq b c
same_comparison (comparison.IsNull b) (comparison.IsNull c) = beq b c
same_comparison (comparison.IsPresent b) (comparison.IsPresent c) = beq b c
same_comparison (comparison.IsNumeric b) (comparison.IsNumeric c) = beq b c
same_comparison (comparison.IsString b) (comparison.IsString c) = beq b c
same_comparison (comparison.IsBoolean b) (comparison.IsBoolean c) = beq b c
same_comparison _ _ = false

abbrev mutual
  pub same_test : TestTree → TestTree → Bool
  same_test (all_of ts) (all_of us) = same_tests ts us
  same_test (any_of ts) (any_of us) = same_tests ts us
  same_test (negation t) (negation u) = same_test t u
  same_test (compare p c) (compare q d) = same_payload_path p q && same_comparison c d
  same_test _ _ = false

  pub same_tests : TestTrees → TestTrees → Bool
  same_tests no_tests no_tests = true
  same_tests no_tests (test u us) = false
  same_tests (test t ts) no_tests = false
  same_tests (test t ts) (test u us) = same_test t u && same_tests ts us

abbrev pub same_rule : Rule → Rule → Bool
same_rule r s = same_test (test_of r.test) (test_of s.test) && same_text r.next s.next

-- ---- they hold of equal values alone

relation_one : (r s : Relation) → same_relation r s ≡ true → r ≡ s
relation_one Equals Equals h = refl
relation_one Less Less h = refl
relation_one Greater Greater h = refl
relation_one LessOrEqual LessOrEqual h = refl
relation_one GreaterOrEqual GreaterOrEqual h = refl
relation_one _ _ h = cc

pub relation_exact : IsExact same_relation
relation_exact = exact same_relation relation_one (λ r. (unsigned_Decides (relation_number r) (relation_number r)).1 refl)

comparison_one : (c d : Comparison) → same_comparison c d ≡ true → c ≡ d
comparison_one (comparison.Text r s) (comparison.Text q t) h =
    let relation : r ≡ q = (relation_exact r q).0 (first_true _ _ h) in
    let other : s ≡ t = (text_exact s t).0 (second_true (same_relation r q) _ h) in
    cc
comparison_one (comparison.Number r y) (comparison.Number q z) h =
    let relation : r ≡ q = (relation_exact r q).0 (first_true _ _ h) in
    let other : y ≡ z = (signed_Decides y z).0 (second_true (same_relation r q) _ h) in
    cc
comparison_one (comparison.Boolean b) (comparison.Boolean c) h = ap comparison.Boolean ((booleans_Decides b c).0 h)
comparison_one (comparison.IsNull b) (comparison.IsNull c) h = ap comparison.IsNull ((booleans_Decides b c).0 h)
comparison_one (comparison.IsPresent b) (comparison.IsPresent c) h = ap comparison.IsPresent ((booleans_Decides b c).0 h)
comparison_one (comparison.IsNumeric b) (comparison.IsNumeric c) h = ap comparison.IsNumeric ((booleans_Decides b c).0 h)
comparison_one (comparison.IsString b) (comparison.IsString c) h = ap comparison.IsString ((booleans_Decides b c).0 h)
comparison_one (comparison.IsBoolean b) (comparison.IsBoolean c) h = ap comparison.IsBoolean ((booleans_Decides b c).0 h)
comparison_one _ _ h = cc

comparison_itself : (c : Comparison) → same_comparison c c ≡ true
comparison_itself (comparison.Text r s) = both_true ((relation_exact r r).1 refl) ((text_exact s s).1 refl)
comparison_itself (comparison.Number r y) = both_true ((relation_exact r r).1 refl) ((signed_Decides y y).1 refl)
comparison_itself (comparison.Boolean b) = (booleans_Decides b b).1 refl
comparison_itself (comparison.IsNull b) = (booleans_Decides b b).1 refl
comparison_itself (comparison.IsPresent b) = (booleans_Decides b b).1 refl
comparison_itself (comparison.IsNumeric b) = (booleans_Decides b b).1 refl
comparison_itself (comparison.IsString b) = (booleans_Decides b b).1 refl
comparison_itself (comparison.IsBoolean b) = (booleans_Decides b b).1 refl

pub comparison_exact : IsExact same_comparison
comparison_exact = exact same_comparison comparison_one comparison_itself

mutual
  tree_one : (t u : TestTree) → same_test t u ≡ true → t ≡ u
  tree_one (all_of ts) (all_of us) h = ap all_of (trees_one ts us h)
  tree_one (any_of ts) (any_of us) h = ap any_of (trees_one ts us h)
  tree_one (negation t) (negation u) h = ap negation (tree_one t u h)
  tree_one (compare p c) (compare q d) h =
      let path : p ≡ q = (path_exact p q).0 (first_true _ _ h) in
      let asked : c ≡ d = (comparison_exact c d).0 (second_true (same_payload_path p q) _ h) in
      cc
  tree_one _ _ h = cc

  trees_one : (ts us : TestTrees) → same_tests ts us ≡ true → ts ≡ us
  trees_one no_tests no_tests h = refl
  trees_one no_tests (test u us) h = cc
  trees_one (test t ts) no_tests h = cc
  trees_one (test t ts) (test u us) h =
      let first : t ≡ u = tree_one t u (first_true _ _ h) in
      let rest : ts ≡ us = trees_one ts us (second_true (same_test t u) _ h) in
      cc

mutual
  tree_itself : (t : TestTree) → same_test t t ≡ true
  tree_itself (all_of ts) = trees_itself ts
  tree_itself (any_of ts) = trees_itself ts
  tree_itself (negation t) = tree_itself t
  tree_itself (compare p c) = both_true ((path_exact p p).1 refl) ((comparison_exact c c).1 refl)

  trees_itself : (ts : TestTrees) → same_tests ts ts ≡ true
  trees_itself no_tests = refl
  trees_itself (test t ts) = both_true (tree_itself t) (trees_itself ts)

pub tree_exact : IsExact same_test
tree_exact = exact same_test tree_one tree_itself

trees_apart : (ts us : List TestTree) → test_trees ts ≡ test_trees us → ts ≡ us
trees_apart [] [] h = refl
trees_apart [] (u ∷ us) h = cc
trees_apart (t ∷ ts) [] h = cc
trees_apart (t ∷ ts) (u ∷ us) h =
    let first : t ≡ u = cc in
    let rest : ts ≡ us = trees_apart ts us cc in
    cc

-- two tests that stand for one tree are one
test_apart : (t u : Test) → test_of t ≡ test_of u → t ≡ u
test_apart (And ts) (And us) h = let same : test_trees ts ≡ test_trees us = cc in ap And (trees_apart ts us same)
test_apart (Or ts) (Or us) h = let same : test_trees ts ≡ test_trees us = cc in ap Or (trees_apart ts us same)
test_apart (Not t) (Not u) h = let same : t ≡ u = cc in ap Not same
test_apart (Compare p c) (Compare q d) h =
    let path : p ≡ q = cc in
    let asked : c ≡ d = cc in
    cc
test_apart _ _ h = cc

rule_one : (r s : Rule) → same_rule r s ≡ true → r ≡ s
rule_one r s h =
    let test : r.test ≡ s.test = test_apart r.test s.test ((tree_exact (test_of r.test) (test_of s.test)).0 (first_true _ _ h)) in
    let next : r.next ≡ s.next = (text_exact r.next s.next).0 (second_true (same_test (test_of r.test) (test_of s.test)) _ h) in
    λ i. record { test = test i; next = next i }

pub rule_exact : IsExact same_rule
rule_exact = exact same_rule rule_one (λ r. both_true ((tree_exact (test_of r.test) (test_of r.test)).1 refl) ((text_exact r.next r.next).1 refl))

pub rules_exact : IsExact (pointwise same_rule)
rules_exact = list_exact same_rule rule_exact
