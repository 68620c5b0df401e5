use Rattle.std.proofs.Common.{ℕ, List, [], drop}
use Rattle.serde_json.specs.View.{items_view}
use Rattle.asl_errors.specs.ErrorFaults.{SomeNoText}
use Rattle.asl_errors.specs.ErrorFields.{NamesAre}
use Rattle.asl_errors.proofs.error_readers.names_of.Given as goal

-- what the rest adds to those that are read is what all are; a fault of the rest is one of all
abbrev pub invariant-loop-item : goal.invariant-loop-item
invariant-loop-item l =
    ((all : List (List ℕ)) → NamesAre (items_view (drop l.item-index l.item-items)) l.inner.items all → NamesAre (items_view l.item-items) [] all)
    × (SomeNoText (items_view (drop l.item-index l.item-items)) → SomeNoText (items_view l.item-items))
