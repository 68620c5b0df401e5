use Rattle.std.proofs.Common.{◌+◌, ◌*◌}
use Rattle.explain.proofs.choices.+asks.Given as goal

abbrev pub decreases-asks : goal.decreases-asks
decreases-asks l = 2 * l.levels

abbrev pub decreases-asks_each : goal.decreases-asks_each
decreases-asks_each l = 2 * l.levels + 1

abbrev pub decreases-asks_inner : goal.decreases-asks_inner
decreases-asks_inner l = 2 * l.levels + 1
