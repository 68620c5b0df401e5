-- The tree that a `Test` stands for.
use Rattle.std.specs.Prelude.{List, map}
use Rattle.asl_states.specs.TestTree.{TestTree, all_of, any_of, negation, compare, test_trees}
use Rattle.asl_states.specs.declared.choice.Test.{Test}
use Rattle.asl_states.specs.declared.choice.Test.TheVariants.{And, Or, Not, Compare}

abbrev pub test_of : Test → TestTree
test_of (And ts) = all_of (test_trees ts)
test_of (Or ts) = any_of (test_trees ts)
test_of (Not t) = negation t
test_of (Compare path comparison) = compare path comparison

abbrev pub tests_of : List Test → List TestTree
tests_of = map test_of
