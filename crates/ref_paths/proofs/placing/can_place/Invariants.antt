use Rattle.std.proofs.Common.{◌≡◌, drop, is_some}
use Rattle.json_tree.specs.Data.{Data}
use Rattle.ref_paths.specs.Composition.{data_or_made}
use Rattle.ref_paths.specs.Placing.{place_at}
use Rattle.ref_paths.proofs.placing.can_place.Given as goal

abbrev pub invariant-loop-step : goal.invariant-loop-step
invariant-loop-step l =
    (value : Data)
    → is_some (place_at (drop l.step-index l.steps) value (data_or_made l.current)) ≡ is_some (place_at l.steps value (data_or_made l.root))
