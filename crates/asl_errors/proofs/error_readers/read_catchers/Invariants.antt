use Rattle.std.proofs.Common.{ℕ, List, [], drop}
use Rattle.serde_json.specs.View.{items_view}
use Rattle.asl_errors.specs.ErrorFaults.{CatchersFault}
use Rattle.asl_errors.specs.ErrorFields.{CatchersAre}
use Rattle.asl_errors.specs.declared.errors.Catcher.{Catcher}
use Rattle.asl_fields.specs.declared.fault.MachineFault.{MachineFault}
use Rattle.asl_errors.proofs.error_readers.read_catchers.Given as goal

-- what the rest adds to those that are read is what all are; a fault of the rest is one of all
abbrev pub invariant-loop-item : goal.invariant-loop-item
invariant-loop-item l =
    ((all : List Catcher) → CatchersAre (items_view (drop l.item-index l.item-items)) l.inner.items all → CatchersAre (items_view l.item-items) [] all)
    × ((e : MachineFault) → CatchersFault (items_view (drop l.item-index l.item-items)) e → CatchersFault (items_view l.item-items) e)
