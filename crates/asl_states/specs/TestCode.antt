-- A tree of numbers for each test, and no tree for two: by it a proof tells tests apart.
use base.Stored.{Gv, gnil, gnum, gcons}
use Rattle.std.specs.Prelude.{◌≡◌, List, refl}
use Rattle.std.specs.Coded.{Coded, coded_list}
use Rattle.std.proofs.Common.{ap, ap₂}
use Rattle.asl_fields.specs.PayloadCode.{steps_code}
use Rattle.asl_states.specs.TestTree.{TestTree, all_of, any_of, negation, compare, TestTrees, no_tests, test}
use Rattle.asl_states.specs.contracts.choice.Comparison as comparison
use Rattle.asl_states.specs.declared.choice.Comparison.{Comparison}

abbrev comparison_code : Coded Comparison
comparison_code = comparison.the_row.coded

abbrev mutual
  pub test_gv : TestTree → Gv
  test_gv (all_of ts) = gcons (gnum 0) (tests_gv ts)
  test_gv (any_of ts) = gcons (gnum 1) (tests_gv ts)
  test_gv (negation t) = gcons (gnum 2) (test_gv t)
  test_gv (compare path c) = gcons (gnum 3) (gcons (steps_code.code path) (comparison_code.code c))

  pub tests_gv : TestTrees → Gv
  tests_gv no_tests = gnil
  tests_gv (test t ts) = gcons (test_gv t) (tests_gv ts)

abbrev first_of : Gv → Gv
first_of gnil = gnil
first_of (gnum n) = gnil
first_of (gcons a b) = a

abbrev rest_of : Gv → Gv
rest_of gnil = gnil
rest_of (gnum n) = gnil
rest_of (gcons a b) = b

mutual
  pub test_inj : (t u : TestTree) → test_gv t ≡ test_gv u → t ≡ u
  test_inj (all_of ts) (all_of us) h = ap all_of (tests_inj ts us (ap rest_of h))
  test_inj (any_of ts) (any_of us) h = ap any_of (tests_inj ts us (ap rest_of h))
  test_inj (negation t) (negation u) h = ap negation (test_inj t u (ap rest_of h))
  test_inj (compare p c) (compare q d) h = ap₂ compare (steps_code.inj p q (ap (λ g. first_of (rest_of g)) h)) (comparison_code.inj c d (ap (λ g. rest_of (rest_of g)) h))
  test_inj _ _ h = cc

  pub tests_inj : (ts us : TestTrees) → tests_gv ts ≡ tests_gv us → ts ≡ us
  tests_inj no_tests no_tests h = refl
  tests_inj (test t ts) (test u us) h = ap₂ test (test_inj t u (ap first_of h)) (tests_inj ts us (ap rest_of h))
  tests_inj _ _ h = cc

abbrev pub test_code : Coded TestTree
test_code = record { code = test_gv; inj = test_inj }

abbrev pub tests_code : Coded (List TestTree)
tests_code = coded_list test_code
