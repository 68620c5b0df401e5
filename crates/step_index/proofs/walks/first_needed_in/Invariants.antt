use Rattle.std.proofs.Common.{◌<◌, length}
use Rattle.std.specs.Prelude.{IfSome, option_map}
use Rattle.linked_classes.specs.Cells.{cell_at}
use Rattle.linked_classes.specs.Places.{IsNumber, place_in}
use Rattle.linked_classes.specs.Sets.{set_of}
use Rattle.step_index.specs.Walks.{needed_by}
use Rattle.step_index.proofs.Passed.{IsPassed, ahead}
use Rattle.step_index.proofs.walks.first_needed_in.Given as goal

abbrev pub invariant-loop-next : goal.invariant-loop-next
invariant-loop-next l = record {
  there : IfSome l.next (IsNumber l.steps.numbers);
  within : IfSome l.next (λ n. place_in l.steps.numbers n < length l.steps.items);
  passed : IsPassed (cell_at (set_of l.steps l.set)) l.class (needed_by l.later) l.records.items 0 (option_map (place_in l.steps.numbers) l.next);
}

abbrev pub decreases-loop-next : goal.decreases-loop-next
decreases-loop-next l = ahead (length l.steps.items) (option_map (place_in l.steps.numbers) l.next)
