use Rattle.std.proofs.Common.{◌<◌, length}
use Rattle.std.specs.Prelude.{IfSome, option_map}
use Rattle.linked_classes.specs.Cells.{cell_at}
use Rattle.linked_classes.specs.Places.{IsNumber, place_in}
use Rattle.linked_classes.specs.Sets.{set_of}
use Rattle.saved_steps.specs.World.{is_same_step}
use Rattle.step_index.proofs.Passed.{IsPassed, ahead}
use Rattle.step_index.proofs.walks.first_named.Given as goal

abbrev pub invariant-loop-next : goal.invariant-loop-next
invariant-loop-next l = record {
  there : IfSome l.next (IsNumber l.records.numbers);
  within : IfSome l.next (λ n. place_in l.records.numbers n < length l.records.items);
  passed : IsPassed (cell_at (set_of l.records l.set)) l.class (λ r. is_same_step r.fact.name l.name) l.records.items 0 (option_map (place_in l.records.numbers) l.next);
}

abbrev pub decreases-loop-next : goal.decreases-loop-next
decreases-loop-next l = ahead (length l.records.items) (option_map (place_in l.records.numbers) l.next)
