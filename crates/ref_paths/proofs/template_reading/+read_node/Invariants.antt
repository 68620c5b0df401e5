use Rattle.std.proofs.Common.{◌+◌, ◌*◌, drop}
use Rattle.json_tree.specs.Data.{depth, list_depth, fields_depth, items_of}
use Rattle.json_tree.specs.View.{data_of}
use Rattle.ref_paths.proofs.TemplateReadings.{ItemsSoFar, FieldsSoFar}
use Rattle.ref_paths.proofs.template_reading.+read_node.Given as goal

abbrev pub invariant-read_list-loop-json : goal.invariant-read_list-loop-json
invariant-read_list-loop-json l = ItemsSoFar l.item_paths (items_of l.list) l.inner.items (drop l.json-index l.json-items)

abbrev pub invariant-read_fields-loop-field : goal.invariant-read_fields-loop-field
invariant-read_fields-loop-field l = FieldsSoFar l.item_paths l.fields l.inner.items (drop l.field-index l.field-items)

abbrev pub decreases-read_node : goal.decreases-read_node
decreases-read_node l = 3 * depth (data_of l.json.now)

abbrev pub decreases-read_list : goal.decreases-read_list
decreases-read_list l = 3 * list_depth l.list.now + 2

abbrev pub decreases-read_fields : goal.decreases-read_fields
decreases-read_fields l = 3 * fields_depth l.fields.now + 2

abbrev pub decreases-read_field : goal.decreases-read_field
decreases-read_field l = 3 * depth (data_of l.value.now) + 1
