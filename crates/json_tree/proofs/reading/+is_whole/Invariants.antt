use Rattle.std.proofs.Common.{◌≡◌, drop, is_some}
use Rattle.json_tree.specs.Reading.{whole_items, whole_members}
use Rattle.json_tree.proofs.reading.+is_whole.Given as goal
use Rattle.serde_json.specs.View.{items_view, members_view}

-- what is left decides
abbrev pub invariant-are_whole-loop-item : goal.invariant-are_whole-loop-item
invariant-are_whole-loop-item l = is_some (whole_items (items_view (drop l.item-index l.item-items))) ≡ is_some (whole_items (items_view l.item-items))

abbrev pub invariant-have_whole-loop-name : goal.invariant-have_whole-loop-name
invariant-have_whole-loop-name l = is_some (whole_members (members_view l._name-iterator)) ≡ is_some (whole_members (members_view l.members.entries))
