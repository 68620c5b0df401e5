use Rattle.std.proofs.Common.{◌≡◌, is_some, drop}
use Rattle.json_tree.specs.View.{data_of}
use Rattle.ref_paths.specs.Filling.{filled_items, filled_fields, item_lent}
use Rattle.ref_paths.specs.PayloadView.{payload_list_of, payload_fields_of}
use Rattle.ref_paths.specs.Templates.{payloads_of, named_of}
use Rattle.ref_paths.proofs.filling.+can_fill.Given as goal

-- the rest can be filled just where all can
abbrev pub invariant-can_fill_list-loop-node : goal.invariant-can_fill_list-loop-node
invariant-can_fill_list-loop-node l =
    is_some (filled_items (data_of l.input) (item_lent l.item) (payloads_of (payload_list_of (drop l.node-index l.node-items))))
    ≡ is_some (filled_items (data_of l.input) (item_lent l.item) (payloads_of l.nodes))

abbrev pub invariant-can_fill_fields-loop-field : goal.invariant-can_fill_fields-loop-field
invariant-can_fill_fields-loop-field l =
    is_some (filled_fields (data_of l.input) (item_lent l.item) (named_of (payload_fields_of (drop l.field-index l.field-items))))
    ≡ is_some (filled_fields (data_of l.input) (item_lent l.item) (named_of l.nodes))
