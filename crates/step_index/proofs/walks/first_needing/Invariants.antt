use Rattle.std.proofs.Common.{◌≡◌, ◌<◌, ◌+◌, ℕ, None, Some, length}
use Rattle.std.specs.Prelude.{IfSome, option_map, slice_get}
use Rattle.linked_classes.specs.Cells.{cell_at}
use Rattle.linked_classes.specs.Places.{IsNumber, place_in}
use Rattle.linked_classes.specs.Sets.{set_of}
use Rattle.saved_steps.specs.declared.record.StepRecord.{StepRecord}
use Rattle.step_index.specs.Walks.{record_needs}
use Rattle.step_index.proofs.Passed.{IsPassed, ahead}
use Rattle.step_index.proofs.walks.first_needing.Given as goal

abbrev pub invariant-loop-next : goal.invariant-loop-next
invariant-loop-next l = record {
  there : IfSome l.next (IsNumber l.records.numbers);
  within : IfSome l.next (λ n. place_in l.records.numbers n < length l.records.items);
  member : (c : ℕ) (f : StepRecord) → cell_at (set_of l.records l.set) l.at ≡ Some c → slice_get l.records.items l.at ≡ Some f
      → IsPassed (cell_at (set_of l.records l.set)) c (record_needs f) l.records.items (l.at + 1) (option_map (place_in l.records.numbers) l.next);
  none : cell_at (set_of l.records l.set) l.at ≡ None → l.next ≡ None;
}

abbrev pub decreases-loop-next : goal.decreases-loop-next
decreases-loop-next l = ahead (length l.records.items) (option_map (place_in l.records.numbers) l.next)
