use Rattle.std.proofs.Common.{◌≡◌, take, map}
use Rattle.json_tree.specs.View.{fields_of, list_of as json_list_of}
use Rattle.attr_values.specs.View.{datum_list_of, entries_of}
use Rattle.attr_values.specs.Writing.{json_of, json_entries}
use Rattle.attr_values.proofs.writing.+write.Given as goal

abbrev pub invariant-write_list-loop-value : goal.invariant-write_list-loop-value
invariant-write_list-loop-value l = json_list_of l.values.items ≡ map json_of (datum_list_of (take l.value-index l.value-items))

abbrev pub invariant-write_map-loop-attribute : goal.invariant-write_map-loop-attribute
invariant-write_map-loop-attribute l = fields_of l.fields.items ≡ json_entries (entries_of (take l.attribute-index l.attribute-items))
