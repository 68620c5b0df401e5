use Rattle.std.proofs.Common.{◌≡◌, ◌<◌, ◌+◌, Some, length}
use Rattle.std.specs.Prelude.{IfSome, option_map, slice_get}
use Rattle.linked_classes.specs.Cells.{cell_at}
use Rattle.linked_classes.specs.Places.{IsNumber, place_in}
use Rattle.linked_classes.specs.Sets.{set_of}
use Rattle.saved_steps.specs.declared.record.StepRecord.{StepRecord}
use Rattle.step_index.specs.Walks.{record_needs}
use Rattle.step_index.proofs.Sought.{IsSought, behind}
use Rattle.step_index.proofs.walks.first_needing_in.Given as goal

abbrev pub invariant-loop-last : goal.invariant-loop-last
invariant-loop-last l = record {
  there : IfSome l.last (IsNumber l.records.numbers);
  found : IfSome l.found (IsNumber l.records.numbers);
  within : IfSome l.last (λ n. place_in l.records.numbers n < length l.records.items);
  sought : (f : StepRecord) → slice_get l.records.items l.at ≡ Some f
      → IsSought (cell_at (set_of l.records l.set)) l.class (record_needs f) l.records.items (l.at + 1) (option_map (place_in l.records.numbers) l.found) (option_map (place_in l.records.numbers) l.last);
}

abbrev pub decreases-loop-last : goal.decreases-loop-last
decreases-loop-last l = behind (option_map (place_in l.records.numbers) l.last)
