use Rattle.std.proofs.Common.{◌≡◌, drop, map}
use Rattle.std.specs.Slice.Iter.{iter_rest}
use Rattle.json_tree.specs.View.{fields_of, list_of as json_list_of}
use Rattle.attr_values.specs.View.{datum_list_of, entries_of}
use Rattle.attr_values.specs.Writing.{json_of, json_entries}
use Rattle.attr_values.proofs.spelling.+spelled.Given as goal

-- if what is left is spelled so, all is
abbrev pub invariant-is_list_spelled-loop-value : goal.invariant-is_list_spelled-loop-value
invariant-is_list_spelled-loop-value l =
    json_list_of (iter_rest l.rest) ≡ map json_of (datum_list_of (drop l.value-index l.value-items)) → l.json ≡ map json_of l.list

abbrev pub invariant-is_map_spelled-loop-attribute : goal.invariant-is_map_spelled-loop-attribute
invariant-is_map_spelled-loop-attribute l =
    fields_of (iter_rest l.rest) ≡ json_entries (entries_of (drop l.attribute-index l.attribute-items)) → l.json ≡ json_entries l.map
