use Rattle.std.proofs.Common.{◌≡◌, drop}
use Rattle.json_tree.specs.View.{data_of}
use Rattle.asl_states.specs.Holding.{all_hold, any_holds}
use Rattle.asl_states.specs.TestTree.{test_trees}
use Rattle.asl_states.specs.TestView.{tests_of}
use Rattle.asl_states.proofs.holding.+holds.Given as goal

-- what the rest says, all say
abbrev pub invariant-all_hold-loop-test : goal.invariant-all_hold-loop-test
invariant-all_hold-loop-test l = all_hold (test_trees (tests_of (drop l.test-index l.test-items))) (data_of l.input) ≡ all_hold (test_trees l.tests) (data_of l.input)

abbrev pub invariant-any_holds-loop-test : goal.invariant-any_holds-loop-test
invariant-any_holds-loop-test l = any_holds (test_trees (tests_of (drop l.test-index l.test-items))) (data_of l.input) ≡ any_holds (test_trees l.tests) (data_of l.input)
