use Rattle.std.proofs.Common.{◌<◌, length}
use Rattle.std.specs.Prelude.{IfSome, option_map}
use Rattle.linked_classes.specs.Cells.{cell_at}
use Rattle.linked_classes.specs.Places.{IsNumber, place_in}
use Rattle.linked_classes.specs.Sets.{set_of}
use Rattle.step_index.specs.Gathered.{is_of_execution}
use Rattle.step_index.proofs.Collecting.{IsGathered}
use Rattle.step_index.proofs.Passed.{ahead}
use Rattle.step_index.proofs.gathered.gathered_of.Given as goal

abbrev pub invariant-loop-next : goal.invariant-loop-next
invariant-loop-next l = record {
  there : IfSome l.next (IsNumber l.records.numbers);
  within : IfSome l.next (λ n. place_in l.records.numbers n < length l.records.items);
  gathered : IsGathered (cell_at (set_of l.records l.set)) l.class (is_of_execution l.exec) l.records.items (option_map (place_in l.records.numbers) l.next) l.found.items;
}

abbrev pub decreases-loop-next : goal.decreases-loop-next
decreases-loop-next l = ahead (length l.records.items) (option_map (place_in l.records.numbers) l.next)
