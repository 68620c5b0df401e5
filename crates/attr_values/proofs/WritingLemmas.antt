-- What is written so far, and then the rest.
use Rattle.std.proofs.Common.{◌≡◌, ℕ, List, [], ◌∷◌, map, refl, sym, ap, subst, ◌∙◌}
use Rattle.std.specs.List.Sorted.{IsStrictlySortedBy}
use Rattle.std.specs.Map.{keys_of}
use Rattle.json_tree.specs.Data as json
use Rattle.json_tree.specs.Data.{items_of, members_of}
use Rattle.json_tree.specs.Fields.{text_cmp, IsInNameOrder}
use Rattle.json_tree.specs.View.{fields_of}
use Rattle.json_tree.specs.declared.tree.Field.{Field}
use Rattle.attr_values.specs.Datum.{Datum, elements_of, attributes_of}
use Rattle.attr_values.specs.Writing.{json_of, json_items, json_members, json_entries}

pub items_of-json : (ds : List Datum) → items_of (map json_of ds) ≡ json_items (elements_of ds)
items_of-json [] = refl
items_of-json (d ∷ ds) = ap (json.item (json_of d)) (items_of-json ds)

pub members_of-json : (ms : List (List ℕ × Datum)) → members_of (json_entries ms) ≡ json_members (attributes_of ms)
members_of-json [] = refl
members_of-json (m ∷ ms) = ap (json.member m.0 (json_of m.1)) (members_of-json ms)

pub keys_of-json : (ms : List (List ℕ × Datum)) → keys_of (json_entries ms) ≡ keys_of ms
keys_of-json [] = refl
keys_of-json (m ∷ ms) = ap (λ ks. m.0 ∷ ks) (keys_of-json ms)

-- what is written so is in order
pub fields_ordered : (done : List Field) (all : List (List ℕ × Datum)) → IsStrictlySortedBy text_cmp (keys_of all) → fields_of done ≡ json_entries all → IsInNameOrder (fields_of done)
fields_ordered done all sorted is = subst (IsStrictlySortedBy text_cmp) (sym (ap keys_of is ∙ keys_of-json all)) sorted
