-- A value whose numbers are whole is what its data says.
use Rattle.std.proofs.Common.{◌≡◌, ℕ, List, [], ◌∷◌, Some, option_map, refl, ap, ◌∙◌}
use Rattle.serde_json.specs.Data as source
use Rattle.json_tree.specs.Data.{Data, items_of, members_of}
use Rattle.json_tree.specs.Reading.{whole_of}
use Rattle.json_tree.specs.View.{data_of}
use Rattle.json_tree.specs.declared.tree.Json.{Json}
use Rattle.json_tree.specs.declared.tree.Json.TheVariants.{Null, Bool, Whole, Text, List as ListOf, Fields}
use Rattle.asl_states.specs.Reading.{item_list, members_in, json_of, whole_json}

items_in-items_of : (ds : List Data) → item_list (items_of ds) ≡ ds
items_in-items_of [] = refl
items_in-items_of (d ∷ ds) = ap (λ es. d ∷ es) (items_in-items_of ds)

members_in-members_of : (ms : List (List ℕ × Data)) → members_in (members_of ms) ≡ ms
members_in-members_of [] = refl
members_in-members_of (m ∷ ms) = ap (λ es. m ∷ es) (members_in-members_of ms)

json_of-data_of : (j : Json) → json_of (data_of j) ≡ j
json_of-data_of Null = refl
json_of-data_of (Bool b) = refl
json_of-data_of (Whole z) = refl
json_of-data_of (Text s) = refl
json_of-data_of (ListOf ds) = ap ListOf (items_in-items_of ds)
json_of-data_of (Fields ms) = ap Fields (members_in-members_of ms)

pub whole_json-whole_of : (d : source.Data) (j : Json) → whole_of d ≡ Some (data_of j) → whole_json d ≡ Some j
whole_json-whole_of d j is = ap (option_map json_of) is ∙ ap Some (json_of-data_of j)
