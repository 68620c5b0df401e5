use Rattle.std.proofs.Common.{◌≡◌, drop}
use Rattle.std.specs.Slice.Iter.{iter_rest}
use Rattle.ref_paths.specs.PayloadView.{payload_list_of, payload_fields_of}
use Rattle.ref_paths.specs.Same.{same_payloads, same_fields}
use Rattle.ref_paths.specs.Templates.{payloads_of, named_of}
use Rattle.ref_paths.proofs.equality.+same_node.Given as goal

-- what is left decides
abbrev pub invariant-same_fields-loop-x : goal.invariant-same_fields-loop-x
invariant-same_fields-loop-x l = same_fields (named_of (payload_fields_of (drop l.x-index l.x-items))) (named_of (payload_fields_of (iter_rest l.rest))) ≡ same_fields (named_of l.a) (named_of l.b)

abbrev pub invariant-same_list-loop-x : goal.invariant-same_list-loop-x
invariant-same_list-loop-x l = same_payloads (payloads_of (payload_list_of (drop l.x-index l.x-items))) (payloads_of (payload_list_of (iter_rest l.rest))) ≡ same_payloads (payloads_of l.a) (payloads_of l.b)
