use Rattle.std.proofs.Common.{◌≡◌, drop}
use Rattle.std.specs.Slice.Iter.{iter_rest}
use Rattle.asl_states.specs.TestSame.{same_tests}
use Rattle.asl_states.specs.TestTree.{test_trees}
use Rattle.asl_states.specs.TestView.{tests_of}
use Rattle.asl_states.proofs.test_equality.+same_test.Given as goal

-- what is left decides
abbrev pub invariant-same_tests-loop-x : goal.invariant-same_tests-loop-x
invariant-same_tests-loop-x l = same_tests (test_trees (tests_of (drop l.x-index l.x-items))) (test_trees (tests_of (iter_rest l.rest))) ≡ same_tests (test_trees l.a) (test_trees l.b)
