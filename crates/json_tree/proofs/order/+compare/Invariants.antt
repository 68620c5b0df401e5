use Rattle.std.proofs.Common.{◌≡◌, drop}
use Rattle.std.specs.Slice.Iter.{iter_rest}
use Rattle.json_tree.specs.Data.{items_of, members_of}
use Rattle.json_tree.specs.Order.{items_cmp, members_cmp}
use Rattle.json_tree.specs.View.{list_of, fields_of}
use Rattle.json_tree.proofs.order.+compare.Given as goal

-- what is left decides
abbrev pub invariant-compare_fields-loop-x : goal.invariant-compare_fields-loop-x
invariant-compare_fields-loop-x l = members_cmp (members_of (fields_of (drop l.x-index l.x-items))) (members_of (fields_of (iter_rest l.rest))) ≡ members_cmp (members_of l.a) (members_of l.b)

abbrev pub invariant-compare_lists-loop-x : goal.invariant-compare_lists-loop-x
invariant-compare_lists-loop-x l = items_cmp (items_of (list_of (drop l.x-index l.x-items))) (items_of (list_of (iter_rest l.rest))) ≡ items_cmp (items_of l.a) (items_of l.b)
