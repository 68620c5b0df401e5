use Rattle.std.proofs.Common.{◌≡◌, ◌<◌, ◌^◌, ◌-◌, min, max, drop}
use Rattle.json_tree.specs.Data.{list_depth}
use Rattle.json_tree.specs.View.{list_of}
use Rattle.json_tree.proofs.nesting.levels_of_items.Given as goal

abbrev pub invariant-loop-item : goal.invariant-loop-item
invariant-loop-item l =
    (l.deepest < 2 ^ 32)
    × (min (max l.deepest (list_depth (list_of (drop l.item-index l.items)))) (2 ^ 32 - 1) ≡ min (list_depth (list_of l.items)) (2 ^ 32 - 1))
