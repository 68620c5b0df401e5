use Rattle.std.proofs.Common.{◌≡◌, drop}
use Rattle.std.specs.Slice.Iter.{iter_rest}
use Rattle.attr_values.specs.Datum.{elements_of, attributes_of}
use Rattle.attr_values.specs.Order.{elements_cmp, attributes_cmp}
use Rattle.attr_values.specs.View.{datum_list_of, entries_of}
use Rattle.attr_values.proofs.order.+compare.Given as goal

-- what is left decides
abbrev pub invariant-compare_maps-loop-x : goal.invariant-compare_maps-loop-x
invariant-compare_maps-loop-x l =
    attributes_cmp (attributes_of (entries_of (drop l.x-index l.x-items))) (attributes_of (entries_of (iter_rest l.rest))) ≡ attributes_cmp (attributes_of l.a) (attributes_of l.b)

abbrev pub invariant-compare_lists-loop-x : goal.invariant-compare_lists-loop-x
invariant-compare_lists-loop-x l =
    elements_cmp (elements_of (datum_list_of (drop l.x-index l.x-items))) (elements_of (datum_list_of (iter_rest l.rest))) ≡ elements_cmp (elements_of l.a) (elements_of l.b)
