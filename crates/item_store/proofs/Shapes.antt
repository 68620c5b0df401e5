-- A list of pairs, and the members or the attributes of one, are the same.
use Rattle.std.proofs.Common.{◌≡◌, ℕ, List, [], ◌∷◌, refl, ap}
use Rattle.json_tree.specs.Data.{Data, members_of}
use Rattle.attr_values.specs.Datum.{Datum, attributes_of}
use Rattle.item_store.specs.Calls.{field_pairs, attribute_pairs}

pub pairs_again : (ms : List (List ℕ × Data)) → field_pairs (members_of ms) ≡ ms
pairs_again [] = refl
pairs_again (m ∷ ms) = ap (λ xs. m ∷ xs) (pairs_again ms)

pub attributes_again : (ms : List (List ℕ × Datum)) → attribute_pairs (attributes_of ms) ≡ ms
attributes_again [] = refl
attributes_again (m ∷ ms) = ap (λ xs. m ∷ xs) (attributes_again ms)
