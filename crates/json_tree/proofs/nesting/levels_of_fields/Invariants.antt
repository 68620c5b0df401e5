use Rattle.std.proofs.Common.{◌≡◌, ◌<◌, ◌^◌, ◌-◌, min, max, drop}
use Rattle.json_tree.specs.Data.{fields_depth}
use Rattle.json_tree.specs.View.{fields_of}
use Rattle.json_tree.proofs.nesting.levels_of_fields.Given as goal

abbrev pub invariant-loop-field : goal.invariant-loop-field
invariant-loop-field l =
    (l.deepest < 2 ^ 32)
    × (min (max l.deepest (fields_depth (fields_of (drop l.field-index l.fields)))) (2 ^ 32 - 1) ≡ min (fields_depth (fields_of l.fields)) (2 ^ 32 - 1))
