-- The tests of a Choice rule, as a tree.
use Rattle.std.specs.Prelude.{ℕ, suc, max, List, [], ◌∷◌}
use Rattle.asl_fields.specs.PathStep.{PathStep}
use Rattle.asl_states.specs.declared.choice.Comparison.{Comparison}

mutual
  pub data TestTree : Type 0 where
    all_of : TestTrees → TestTree
    any_of : TestTrees → TestTree
    negation : TestTree → TestTree
    compare : List PathStep → Comparison → TestTree

  pub data TestTrees : Type 0 where
    no_tests : TestTrees
    test : TestTree → TestTrees → TestTrees

abbrev pub test_trees : List TestTree → TestTrees
test_trees [] = no_tests
test_trees (t ∷ ts) = test t (test_trees ts)

-- how deep tests nest
abbrev mutual
  pub test_depth : TestTree → ℕ
  test_depth (all_of ts) = suc (trees_depth ts)
  test_depth (any_of ts) = suc (trees_depth ts)
  test_depth (negation t) = suc (test_depth t)
  test_depth (compare path comparison) = 0

  pub trees_depth : TestTrees → ℕ
  trees_depth no_tests = 0
  trees_depth (test t ts) = max (test_depth t) (trees_depth ts)

abbrev pub tests_depth : List TestTree → ℕ
tests_depth ts = trees_depth (test_trees ts)
