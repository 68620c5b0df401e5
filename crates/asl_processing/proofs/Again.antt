-- What is seen and made again, or picked by the path to the root, is the same.
use Rattle.std.proofs.Common.{◌≡◌, ℕ, List, [], ◌∷◌, Result, Ok, Err, Some, refl, ap}
use Rattle.json_tree.specs.Data.{Data, items_of, members_of}
use Rattle.json_tree.specs.View.{data_of}
use Rattle.json_tree.specs.declared.tree.Json.{Json}
use Rattle.json_tree.specs.declared.tree.Json.TheVariants.{Null, Bool, Whole, Text, List as ListOf, Fields}
use Rattle.asl_states.specs.Reading.{item_list, members_in, json_of}
use Rattle.asl_processing.specs.Processing.{and_then, picked_by_path}

pub items_again : (ds : List Data) → ds ≡ item_list (items_of ds)
items_again [] = refl
items_again (d ∷ ds) = ap (λ es. d ∷ es) (items_again ds)

members_again : (ms : List (List ℕ × Data)) → ms ≡ members_in (members_of ms)
members_again [] = refl
members_again (m ∷ ms) = ap (λ es. m ∷ es) (members_again ms)

pub json_again : (j : Json) → j ≡ json_of (data_of j)
json_again Null = refl
json_again (Bool b) = refl
json_again (Whole z) = refl
json_again (Text s) = refl
json_again (ListOf ds) = ap ListOf (items_again ds)
json_again (Fields ms) = ap Fields (members_again ms)

pub picked_root : (d : Result Data (List ℕ)) → and_then (picked_by_path (Some [])) d ≡ d
picked_root (Ok d) = refl
picked_root (Err error) = refl
