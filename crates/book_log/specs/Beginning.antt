-- The items with which a book begins: an object is an item's, by the form of attribute values, and its key is that of the
-- table's attributes.
use Rattle.std.specs.Prelude.{List, [], ◌∷◌, Some, None, Result, Ok, Err}
use Rattle.json_tree.specs.Data.{Data}
use Rattle.attr_values.specs.Faults.{result_map, result_and_then}
use Rattle.attr_values.specs.Key.{key_of}
use Rattle.attr_values.specs.Reading.{read_item}
use Rattle.attr_values.specs.declared.fault.ItemFault.{ItemFault}
use Rattle.attr_values.specs.declared.key.Key.{Key}
use Rattle.attr_values.specs.declared.key.KeySchema.{KeySchema}
use Rattle.item_store.specs.Calls.{attribute_pairs}
use Rattle.item_store.specs.Deciding.{ItemAttributes}
use Rattle.item_store.specs.Table.{Table, with_item}
use Rattle.book_log.specs.declared.begin.Begin.{Begin}

abbrev pub with_key : KeySchema → ItemAttributes → Result (Key × ItemAttributes) ItemFault
with_key schema item = result_map (λ key. (key, item)) (key_of schema item)

-- the item of an object, with its key
abbrev pub keyed_item : KeySchema → Data → Result (Key × ItemAttributes) ItemFault
keyed_item schema d = result_and_then (λ item. with_key schema (attribute_pairs item)) (read_item d)

-- one after another into a table; a later item of a key replaces an earlier one, and the first that is none is refused
abbrev pub filled : KeySchema → Table → List Data → Result Table ItemFault
filled schema items [] = Ok items
filled schema items (d ∷ ds) = result_and_then (λ e. filled schema (with_item items e.0 (Some e.1)) ds) (keyed_item schema d)

abbrev pub no_items : Table
no_items key = None

-- the table of a beginning, or why it is refused
abbrev pub begun_table : Begin → Result Table ItemFault
begun_table begin = filled begin.schema no_items begin.items

abbrev pub or_empty : Result Table ItemFault → Table
or_empty (Ok items) = items
or_empty (Err fault) = no_items

-- the items that stand at the beginning
abbrev pub first_items : Begin → Table
first_items begin = or_empty (begun_table begin)
