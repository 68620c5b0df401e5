use Rattle.std.proofs.Common.{◌≡◌, drop}
use Rattle.json_tree.specs.View.{fields_of}
use Rattle.item_store.specs.Calls.{has_its_fields}
use Rattle.item_store.proofs.reading.has_its_fields.Given as goal

abbrev pub invariant-loop-field : goal.invariant-loop-field
invariant-loop-field l = has_its_fields l.action l.fields ≡ has_its_fields l.action (fields_of (drop l.field-index l.field-items))
