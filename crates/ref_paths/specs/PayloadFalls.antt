-- What a list or some fields hold nests less deep than they do.
use denote.Param.Weighed.{most}
use Rattle.std.specs.Prelude.{◌≤◌, max, List, [], ◌∷◌}
use Rattle.std.proofs.Common.{arith}
use Rattle.ref_paths.specs.Templates.{depth, payload_list_depth, payload_fields_depth}
use Rattle.ref_paths.specs.PayloadView.{payload_of, payload_list_of, payload_fields_of}
use Rattle.ref_paths.specs.declared.template.Node.{Node}
use Rattle.ref_paths.specs.declared.template.Node.TheVariants.{Literal, Input, ItemIndex, Item, List as ListOf, Fields}
use Rattle.ref_paths.specs.declared.template.NodeField.{NodeField}
use Rattle.ref_paths.specs.declared.template.NodeFields.TheDeep.{deep-Node, deep-NodeField}

deep_le : (n : Node) → deep-Node n ≤ depth (payload_of n)
deep_le (Literal j) = omega arith
deep_le (Input path) = omega arith
deep_le ItemIndex = omega arith
deep_le (Item path) = omega arith
deep_le (ListOf ps) = omega arith
deep_le (Fields fs) = omega arith

pub payload_list_falls : (ns : List Node) → max (most (λ n. deep-Node n) ns) 0 ≤ payload_list_depth (payload_list_of ns)
payload_list_falls [] = omega arith
payload_list_falls (n ∷ ns) = omega (arith, deep_le n, payload_list_falls ns)

pub payload_fields_fall : (fs : List NodeField) → max (most (λ f. deep-NodeField f) fs) 0 ≤ payload_fields_depth (payload_fields_of fs)
payload_fields_fall [] = omega arith
payload_fields_fall (f ∷ fs) = omega (arith, deep_le f.value, payload_fields_fall fs)
