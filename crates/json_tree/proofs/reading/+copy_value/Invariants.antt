use Rattle.std.proofs.Common.{◌≡◌, drop, option_map}
use Rattle.json_tree.specs.Reading.{whole_items, whole_members}
use Rattle.json_tree.specs.View.{list_of}
use Rattle.json_tree.proofs.Readings.{items_before, IsReadSoFar}
use Rattle.json_tree.proofs.reading.+copy_value.Given as goal
use Rattle.serde_json.specs.View.{items_view, members_view}

-- what is read so far, and then the rest
abbrev pub invariant-copy_items-loop-item : goal.invariant-copy_items-loop-item
invariant-copy_items-loop-item l =
    whole_items (items_view l.item-items) ≡ option_map (items_before (list_of l.inner.items)) (whole_items (items_view (drop l.item-index l.item-items)))

abbrev pub invariant-copy_members-loop-key : goal.invariant-copy_members-loop-key
invariant-copy_members-loop-key l = IsReadSoFar l.inner.items l.key-iterator (whole_members (members_view l.members.entries))
