-- A list of values and the items of one are the same, and so are pairs and members.
use Rattle.std.proofs.Common.{◌≡◌, ℕ, List, [], ◌∷◌, refl, ap}
use Rattle.json_tree.specs.Data.{Data, Items, no_items, item, Members, no_members, member, items_of, members_of}
use Rattle.ref_paths.specs.Picking.{values_of, pairs_of}

pub values_again : (ds : List Data) → values_of (items_of ds) ≡ ds
values_again [] = refl
values_again (d ∷ ds) = ap (λ xs. d ∷ xs) (values_again ds)

pub pairs_again : (ms : List (List ℕ × Data)) → pairs_of (members_of ms) ≡ ms
pairs_again [] = refl
pairs_again (m ∷ ms) = ap (λ xs. m ∷ xs) (pairs_again ms)

pub items_again : (ds : Items) → items_of (values_of ds) ≡ ds
items_again no_items = refl
items_again (item d ds) = ap (item d) (items_again ds)

pub members_again : (ms : Members) → members_of (pairs_of ms) ≡ ms
members_again no_members = refl
members_again (member k d ms) = ap (member k d) (members_again ms)
