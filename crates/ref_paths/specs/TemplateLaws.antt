-- Laws of templates and of what they give.
use Rattle.std.specs.Prelude.{◌≡◌, ℕ, Bool, List, Option, Some, None, ⊤}
use Rattle.std.specs.List.Sorted.{IsStrictlySortedBy}
use Rattle.json_tree.specs.Data.{Data, null, boolean, whole, text, list, fields, Items, no_items, item, Members, no_members, member}
use Rattle.json_tree.specs.Fields.{text_cmp, get_field}
use Rattle.json_tree.specs.Proper.{names, IsProper}
use Rattle.ref_paths.specs.Filling.{filled}
use Rattle.ref_paths.specs.Picking.{pairs_of}
use Rattle.ref_paths.specs.Templates.{Payload, IsTemplate, FieldIs, unmarked}

-- no name ends with `.$`, at any depth
abbrev mutual
  pub HasNoMark : Data → Type 0
  HasNoMark null = ⊤
  HasNoMark (boolean b) = ⊤
  HasNoMark (whole z) = ⊤
  HasNoMark (text s) = ⊤
  HasNoMark (list ds) = ItemsHaveNoMark ds
  HasNoMark (fields ms) = FieldsHaveNoMark ms

  pub ItemsHaveNoMark : Items → Type 0
  ItemsHaveNoMark no_items = ⊤
  ItemsHaveNoMark (item d ds) = HasNoMark d × ItemsHaveNoMark ds

  pub FieldsHaveNoMark : Members → Type 0
  FieldsHaveNoMark no_members = ⊤
  FieldsHaveNoMark (member k d ms) = (unmarked k ≡ None) × HasNoMark d × FieldsHaveNoMark ms

-- a value without marked fields is a template, which is filled to the value itself, whatever the input and the item
abbrev pub UnmarkedStays : Type 0
UnmarkedStays =
    (item_paths : Bool) (d : Data) → IsProper d → HasNoMark d → (p : Payload) × IsTemplate item_paths d p × ((input : Data) (it : Option (ℕ × Data)) → filled input it p ≡ Some d)

-- Where an object is filled, each of its fields has become one field: under the name without the mark, with what its text
-- spells; or under its name, with what its own template gives.
abbrev pub FieldsAreFilled : Type 0
FieldsAreFilled =
    (item_paths : Bool) (ms : Members) (p : Payload) (input : Data) (it : Option (ℕ × Data)) (after : Members) (k : List ℕ) (d : Data)
    → IsStrictlySortedBy text_cmp (names ms) → IsTemplate item_paths (fields ms) p → filled input it p ≡ Some (fields after) → get_field k (pairs_of ms) ≡ Some d
    → (name : List ℕ) × (q : Payload) × FieldIs item_paths (pairs_of ms) k d (name, q) (IsTemplate item_paths d q) × (get_field name (pairs_of after) ≡ filled input it q)

-- a value is one template at most
abbrev pub ValuesAreOneTemplate : Type 0
ValuesAreOneTemplate = (item_paths : Bool) (d : Data) (p q : Payload) → IsTemplate item_paths d p → IsTemplate item_paths d q → p ≡ q
