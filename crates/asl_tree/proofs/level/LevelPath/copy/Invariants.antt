use Rattle.std.proofs.Common.{◌≡◌, take}
use Rattle.asl_tree.proofs.level.LevelPath.copy.Given as goal

abbrev pub invariant-loop-step : goal.invariant-loop-step
invariant-loop-step l = l.inner.items ≡ take l.step-index l.step-items
