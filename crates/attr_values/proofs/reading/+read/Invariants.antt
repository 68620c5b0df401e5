use Rattle.std.proofs.Common.{◌≡◌, ◌+◌, ◌*◌, ◌++◌, drop}
use Rattle.std.specs.List.Sorted.{IsStrictlySortedBy}
use Rattle.std.specs.Map.{keys_of}
use Rattle.json_tree.specs.Data.{items_of, members_of}
use Rattle.json_tree.specs.Fields.{text_cmp}
use Rattle.json_tree.specs.View.{list_of as json_list_of, fields_of}
use Rattle.attr_values.specs.Faults.{result_map}
use Rattle.attr_values.specs.Reading as spec
use Rattle.attr_values.specs.View.{datum_list_of, entries_of}
use Rattle.attr_values.proofs.ReadingLemmas.{elements_before, attributes_before}
use Rattle.attr_values.proofs.reading.+read.Given as goal

abbrev pub invariant-read_elements-loop-json : goal.invariant-read_elements-loop-json
invariant-read_elements-loop-json l =
    spec.read_elements l.levels (items_of l.list)
    ≡ result_map (elements_before (datum_list_of l.inner.items)) (spec.read_elements l.levels (items_of (json_list_of (drop l.json-index l.json-items))))

abbrev pub invariant-read_attributes-loop-field : goal.invariant-read_attributes-loop-field
invariant-read_attributes-loop-field l =
    IsStrictlySortedBy text_cmp (keys_of (entries_of l.inner.items) ++ keys_of (fields_of (drop l.field-index l.field-items)))
    × (spec.read_attributes l.levels (members_of l.fields)
    ≡ result_map (attributes_before (entries_of l.inner.items)) (spec.read_attributes l.levels (members_of (fields_of (drop l.field-index l.field-items)))))

abbrev pub decreases-read_within : goal.decreases-read_within
decreases-read_within l = 4 * l.levels + 2

abbrev pub decreases-read_kind : goal.decreases-read_kind
decreases-read_kind l = 4 * l.levels + 1

abbrev pub decreases-read_list : goal.decreases-read_list
decreases-read_list l = 4 * l.levels

abbrev pub decreases-read_map : goal.decreases-read_map
decreases-read_map l = 4 * l.levels

abbrev pub decreases-read_elements : goal.decreases-read_elements
decreases-read_elements l = 4 * l.levels + 3

abbrev pub decreases-read_attributes : goal.decreases-read_attributes
decreases-read_attributes l = 4 * l.levels + 3
