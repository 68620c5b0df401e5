use Rattle.std.proofs.Common.{◌≡◌, length}
use Rattle.json_tree.specs.View.{data_of}
use Rattle.ref_paths.specs.Composition.{pick_placed_at, data_or_made}
use Rattle.ref_paths.proofs.composing.pick_placed.Given as goal

abbrev pub invariant-loop-step : goal.invariant-loop-step
invariant-loop-step l = pick_placed_at l.to_place l.to_pick (data_of l.value) (data_or_made l.current) ≡ pick_placed_at l.placing l.picking (data_of l.value) (data_of l.root)

abbrev pub decreases-loop-step : goal.decreases-loop-step
decreases-loop-step l = length l.to_place
