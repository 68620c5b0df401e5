-- The template that a `Node` stands for.
use Rattle.std.specs.Prelude.{ℕ, List, map}
use Rattle.json_tree.specs.View.{data_of}
use Rattle.ref_paths.specs.Templates.{Payload, constant, from_input, item_index, from_item, list, fields, payloads_of, named_of}
use Rattle.ref_paths.specs.declared.template.Node.{Node}
use Rattle.ref_paths.specs.declared.template.Node.TheVariants.{Literal, Input, ItemIndex, Item, List as ListOf, Fields}
use Rattle.ref_paths.specs.declared.template.NodeField.{NodeField}

abbrev pub payload_of : Node → Payload
payload_of (Literal j) = constant (data_of j)
payload_of (Input path) = from_input path
payload_of ItemIndex = item_index
payload_of (Item path) = from_item path
payload_of (ListOf ps) = list (payloads_of ps)
payload_of (Fields fs) = fields (named_of fs)

abbrev pub payload_list_of : List Node → List Payload
payload_list_of = map payload_of

abbrev pub payload_field_of : NodeField → List ℕ × Payload
payload_field_of f = (f.name, payload_of f.value)

abbrev pub payload_fields_of : List NodeField → List (List ℕ × Payload)
payload_fields_of = map payload_field_of
