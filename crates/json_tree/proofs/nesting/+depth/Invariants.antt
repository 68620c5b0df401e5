use Rattle.std.proofs.Common.{◌≡◌, ◌<◌, ◌^◌, ◌-◌, min, max, drop}
use Rattle.json_tree.specs.Data.{list_depth, fields_depth}
use Rattle.json_tree.specs.View.{list_of, fields_of}
use Rattle.json_tree.proofs.nesting.+depth.Given as goal

abbrev pub invariant-depth_of_fields-loop-field : goal.invariant-depth_of_fields-loop-field
invariant-depth_of_fields-loop-field l =
    (l.deepest < 2 ^ 32)
    × (min (max l.deepest (fields_depth (fields_of (drop l.field-index l.field-items)))) (2 ^ 32 - 1) ≡ min (fields_depth (fields_of l.field-items)) (2 ^ 32 - 1))

abbrev pub invariant-depth_of_list-loop-item : goal.invariant-depth_of_list-loop-item
invariant-depth_of_list-loop-item l =
    (l.deepest < 2 ^ 32)
    × (min (max l.deepest (list_depth (list_of (drop l.item-index l.item-items)))) (2 ^ 32 - 1) ≡ min (list_depth (list_of l.item-items)) (2 ^ 32 - 1))
