-- A test's tree gives the test back, so that no two tests have one tree.
use Rattle.std.proofs.Common.{◌≡◌, List, [], ◌∷◌, refl, sym, ap, ◌∙◌}
use Rattle.asl_states.specs.TestTree.{TestTree, all_of, any_of, negation, compare, TestTrees, no_tests, test, test_trees}
use Rattle.asl_states.specs.TestView.{test_of}
use Rattle.asl_states.specs.declared.choice.Test.{Test}
use Rattle.asl_states.specs.declared.choice.Test.TheVariants.{And, Or, Not, Compare}

abbrev trees_in : TestTrees → List TestTree
trees_in no_tests = []
trees_in (test t ts) = t ∷ trees_in ts

trees_in-test_trees : (ts : List TestTree) → trees_in (test_trees ts) ≡ ts
trees_in-test_trees [] = refl
trees_in-test_trees (t ∷ ts) = ap (λ us. t ∷ us) (trees_in-test_trees ts)

abbrev test_in : TestTree → Test
test_in (all_of ts) = And (trees_in ts)
test_in (any_of ts) = Or (trees_in ts)
test_in (negation t) = Not t
test_in (compare path c) = Compare path c

test_in-test_of : (t : Test) → test_in (test_of t) ≡ t
test_in-test_of (And ts) = ap And (trees_in-test_trees ts)
test_in-test_of (Or ts) = ap Or (trees_in-test_trees ts)
test_in-test_of (Not t) = refl
test_in-test_of (Compare path c) = refl

pub test_of-inj : (t u : Test) → test_of t ≡ test_of u → t ≡ u
test_of-inj t u h = sym (test_in-test_of t) ∙ ap test_in h ∙ test_in-test_of u
