use Rattle.std.proofs.Common.{ℕ, ◌+◌, ◌*◌, drop}
use Rattle.serde_json.specs.Data.{depth, items_depth}
use Rattle.serde_json.specs.View.{view, items_view}
use Rattle.asl_fields.specs.declared.fault.MachineFault.{MachineFault}
use Rattle.asl_states.proofs.TestReadings.{TestsSoFar}
use Rattle.asl_states.specs.TestFaults.{SomeTestFault, TestFaultWithin}
use Rattle.asl_states.proofs.test_readers.+read_test.Given as goal

-- what is read so far and the rest is all; a fault of the rest is one of all
abbrev pub invariant-read_each_test-loop-item : goal.invariant-read_each_test-loop-item
invariant-read_each_test-loop-item l =
    TestsSoFar (items_view l.item-items) l.inner.items (drop l.item-index l.item-items)
    × ((n : ℕ) (e : MachineFault) → SomeTestFault (TestFaultWithin n) l.field (items_view (drop l.item-index l.item-items)) e → SomeTestFault (TestFaultWithin n) l.field (items_view l.item-items) e)

abbrev pub decreases-read_test : goal.decreases-read_test
decreases-read_test l = 3 * depth (view l.value.now) + 2

abbrev pub decreases-read_tests : goal.decreases-read_tests
decreases-read_tests l = 3 * depth (view l.object.now) + 1

abbrev pub decreases-read_inner : goal.decreases-read_inner
decreases-read_inner l = 3 * depth (view l.object.now) + 1

abbrev pub decreases-read_each_test : goal.decreases-read_each_test
decreases-read_each_test l = 3 * items_depth (items_view l.items.now.items) + 3
