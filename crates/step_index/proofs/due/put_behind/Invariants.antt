use Rattle.std.specs.BinaryHeap.{heap_items}
use Rattle.std.specs.Prelude.{IfSome, option_map}
use Rattle.linked_classes.specs.Places.{IsNumber, place_in}
use Rattle.linked_classes.specs.Sets.{set_of}
use Rattle.step_index.specs.Queue.{has_place}
use Rattle.step_index.proofs.Opening.{IsPut}
use Rattle.step_index.proofs.Sought.{behind}
use Rattle.step_index.proofs.due.put_behind.Given as goal

-- the places of the class that were passed, behind a place, are due
abbrev pub invariant-loop-last : goal.invariant-loop-last
invariant-loop-last l = record {
  there : IfSome l.last (IsNumber l.records.numbers);
  put : IsPut (set_of l.records l.set) l.class l.at (option_map (place_in l.records.numbers) l.last) (has_place (heap_items l.fn.due.heap)) (has_place (heap_items l.due.heap));
}

abbrev pub decreases-loop-last : goal.decreases-loop-last
decreases-loop-last l = behind (option_map (place_in l.records.numbers) l.last)
