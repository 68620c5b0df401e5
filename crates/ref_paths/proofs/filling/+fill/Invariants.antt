use Rattle.std.proofs.Common.{◌≡◌, ◌++◌, [], option_map, drop}
use Rattle.json_tree.specs.View.{data_of, list_of as datas_of}
use Rattle.ref_paths.specs.Filling.{filled_items, filled_fields, fields_with, item_lent}
use Rattle.ref_paths.specs.PayloadView.{payload_list_of, payload_fields_of}
use Rattle.ref_paths.specs.Templates.{payloads_of, named_of}
use Rattle.ref_paths.proofs.filling.+fill.Given as goal

-- what is filled so far, and then the rest
abbrev pub invariant-fill_list-loop-node : goal.invariant-fill_list-loop-node
invariant-fill_list-loop-node l =
    option_map (λ ds. datas_of l.items.items ++ ds) (filled_items (data_of l.input) (item_lent l.item) (payloads_of (payload_list_of (drop l.node-index l.node-items))))
    ≡ filled_items (data_of l.input) (item_lent l.item) (payloads_of l.nodes)

abbrev pub invariant-fill_fields-loop-field : goal.invariant-fill_fields-loop-field
invariant-fill_fields-loop-field l =
    option_map (fields_with l.fields) (filled_fields (data_of l.input) (item_lent l.item) (named_of (payload_fields_of (drop l.field-index l.field-items))))
    ≡ option_map (fields_with []) (filled_fields (data_of l.input) (item_lent l.item) (named_of l.nodes))
