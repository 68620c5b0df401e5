use Rattle.std.proofs.Common.{rules, ◌≡◌, ◌<◌, ◌≤◌, ◌==◌, ℕ, List, Some, false, length, codes, arith, subst, sym, option_and_then}
use Rattle.serde_json.specs.Data.{depth, items_depth}
use Rattle.serde_json.specs.Find.{get}
use Rattle.serde_json.specs.View.{view, items_view, members_view}
use Rattle.serde_json.specs.declared.value.Value.{Value}
use Rattle.asl_fields.specs.Refusal.{RefusesForFault}
use Rattle.asl_states.proofs.TestReadings.{field_falls, list_falls, value_falls, tests_step, tests_end, test_refuses, items_read, passed_on, form_refuses, later_step}
use Rattle.asl_states.specs.TestFaults.{TestFault, TestFaultWithin, TestsFieldFault, SomeTestFault, NotFault}
use Rattle.asl_states.specs.TestFields.{test_form_of, TestsAre}
use Rattle.asl_states.specs.TestTree.{test_trees}
use Rattle.asl_states.specs.TestView.{tests_of}
use Rattle.asl_states.specs.declared.test_readers.TestForm.TheVariants.{And, Or, Not}
use Rattle.asl_states.proofs.test_readers.+read_test.Goals as goal

pub read_each_test-read_test-requires : goal.read_each_test-read_test-requires
read_each_test-read_test-requires t c =
    let below : depth (view c.item-item.result) ≤ items_depth (items_view c.args.items.now.items) =
    subst (λ (vs : List Value). depth (view c.item-item.result) ≤ items_depth (items_view vs)) c.deref-item-items.ensures.value
    (value_falls c.deref-item-items.result.now c.loop-item.item-index c.item-item.result c.item-item.is c.loop-item-test.true) in
    (omega (arith, below), tt)

pub read_each_test-returns-in-Err-clause-fault : goal.read_each_test-returns-in-Err-clause-fault
read_each_test-returns-in-Err-clause-fault t c =
    let e = c.in-Err.fault in
    subst (λ (vs : List Value). RefusesForFault e ((n : ℕ) × SomeTestFault (TestFaultWithin n) c.args.field.now (items_view vs) e)) c.deref-item-items.ensures.value
    (test_refuses c.args.field.now c.deref-item-items.result.now c.loop-item.item-index c.item-item.result e c.item-item.is c.loop-item-test.true c.loop-item.invariant.1 c.in-Err.ensures.fault)

pub read_each_test-loop-item-preserved : goal.read_each_test-loop-item-preserved
read_each_test-loop-item-preserved t c =
    let from = c.deref-item-items.result.now in (
      tests_step (items_view from) from c.loop-item.item-index c.item-item.result c.loop-item.inner.items c.push.new.self.items c.in-Ok.test c.item-item.is c.loop-item-test.true c.in-Ok.ensures.ok
          c.in_ok-push-in-Ok.ensures.items c.loop-item.invariant.0,
      later_step c.args.field.now from c.loop-item.item-index c.item-item.result c.item-item.is c.loop-item-test.true c.loop-item.invariant.1,
    )

pub read_each_test-returns-clause-ok : goal.read_each_test-returns-clause-ok
read_each_test-returns-clause-ok t c =
    let from = c.deref-item-items.result.now in
    subst (λ (vs : List Value). TestsAre (items_view vs) (test_trees (tests_of c.loop-item.inner.items))) c.deref-item-items.ensures.value
    (tests_end (items_view from) from c.loop-item.item-index c.loop-item.inner.items c.loop-item-test.false c.loop-item.invariant.0)

pub read_inner-read_test-requires : goal.read_inner-read_test-requires
read_inner-read_test-requires t c = (omega (arith, field_falls (codes "Not") (view c.args.object.now) (view c.in-Some.value.now) (sym c.in-Some.ensures)), tt)

pub read_test-returns-in_err-read_tests-in-Some-And-clause-fault : goal.read_test-returns-in_err-read_tests-in-Some-And-clause-fault
read_test-returns-in_err-read_tests-in-Some-And-clause-fault t c =
    let d = view c.args.value.now in
    let e = c.in_err-read_tests-in-Some-And.field-0.0 in
    let formed : Some And ≡ test_form_of d = search rules in
    passed_on c.from_residual-in_err-read_tests-in-Some-And.result e (λ f. RefusesForFault f (TestFault c.args.place c.args.field.now d f)) c.from_residual-in_err-read_tests-in-Some-And.ensures.1
    (form_refuses (λ n f. TestsFieldFault (TestFaultWithin n) (codes "And") (get (codes "And") d) f) c.args.place c.args.field.now d (members_view c.in-Some.fields.now.entries) And e c.in-Some.ensures formed (λ n f. f) c.in_err-read_tests-in-Some-And.ensures.fault)

pub read_test-returns-in_err-read_tests-in-Some-Or-clause-fault : goal.read_test-returns-in_err-read_tests-in-Some-Or-clause-fault
read_test-returns-in_err-read_tests-in-Some-Or-clause-fault t c =
    let d = view c.args.value.now in
    let e = c.in_err-read_tests-in-Some-Or.field-0.0 in
    let formed : Some Or ≡ test_form_of d = search rules in
    passed_on c.from_residual-in_err-read_tests-in-Some-Or.result e (λ f. RefusesForFault f (TestFault c.args.place c.args.field.now d f)) c.from_residual-in_err-read_tests-in-Some-Or.ensures.1
    (form_refuses (λ n f. TestsFieldFault (TestFaultWithin n) (codes "Or") (get (codes "Or") d) f) c.args.place c.args.field.now d (members_view c.in-Some.fields.now.entries) Or e c.in-Some.ensures formed (λ n f. f) c.in_err-read_tests-in-Some-Or.ensures.fault)

pub read_test-returns-in_err-read_inner-in-Some-Not-clause-fault : goal.read_test-returns-in_err-read_inner-in-Some-Not-clause-fault
read_test-returns-in_err-read_inner-in-Some-Not-clause-fault t c =
    let d = view c.args.value.now in
    let e = c.in_err-read_inner-in-Some-Not.field-0.0 in
    let formed : Some Not ≡ test_form_of d = search rules in
    passed_on c.from_residual-in_err-read_inner-in-Some-Not.result e (λ f. RefusesForFault f (TestFault c.args.place c.args.field.now d f)) c.from_residual-in_err-read_inner-in-Some-Not.ensures.1
    (form_refuses (λ n f. NotFault (TestFaultWithin n) (get (codes "Not") d) f) c.args.place c.args.field.now d (members_view c.in-Some.fields.now.entries) Not e c.in-Some.ensures formed (λ n f. f) c.in_err-read_inner-in-Some-Not.ensures.fault)

pub read_tests-read_each_test-requires : goal.read_tests-read_each_test-requires
read_tests-read_each_test-requires t c =
    (omega (arith, field_falls c.args.field.now (view c.args.object.now) (view c.in-Some.value.now) (sym c.in-Some.ensures), list_falls (view c.in-Some.value.now) (items_view c.in-Some-as_array.items.now.items) (sym c.in-Some-as_array.ensures)), tt)

pub read_tests-returns-clause-ok : goal.read_tests-returns-clause-ok
read_tests-returns-clause-ok t c =
    let vs = c.in-Some-as_array.items.now.items in
    let some : (length vs == 0) ≡ false = search rules in
    items_read (λ ds ts. TestsAre ds (test_trees ts)) (get c.args.field.now (view c.args.object.now)) (view c.in-Some.value.now) vs c.read_each_test.result c.in-Some.ensures c.in-Some-as_array.ensures some c.read_each_test.ensures.ok
