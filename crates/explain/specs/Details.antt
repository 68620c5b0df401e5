-- What is wrong, as the details of an explanation say it.
use Rattle.std.specs.Prelude.{◌≡◌, ℕ, ◌⊎◌, List, [], ◌∷◌, ◌++◌, Bool, true, false, ◌||◌, Option, Some, None, is_some, Err, codes, option_and_then}
use Rattle.json_tree.specs.Data.{Data, text, list, fields, no_members, member}
use Rattle.json_tree.specs.Fields.{get_field, is_text}
use Rattle.ref_paths.specs.Grammar.{SpellsPath}
use Rattle.ref_paths.specs.Picking.{pick_at}
use Rattle.ref_paths.specs.Placing.{place_at}
use Rattle.ref_paths.specs.declared.path.PathStep.{PathStep}
use Rattle.attr_values.specs.Reading.{read_datum}
use Rattle.attr_values.specs.declared.fault.ItemFault.{ItemFault}
use Rattle.attr_values.specs.declared.key.KeyAttribute.{KeyAttribute}
use Rattle.attr_values.specs.declared.key.KeySchema.{KeySchema}
use Rattle.item_store.specs.Calls.{field_pairs, may_have, item_field, text_of, returns_of, condition_in}
use Rattle.item_store.specs.declared.call.Action.{Action}
use Rattle.explain.specs.declared.details.Flaw.{Flaw}
use Rattle.explain.specs.declared.details.Flaw.TheVariants as flaw

-- ---- paths

-- the text is that of a path that picks nothing of the value
abbrev pub PathPicksNothing : List ℕ → Data → Type 0
PathPicksNothing s d = (p : List PathStep) × SpellsPath p s × (pick_at p d ≡ None)

-- the same; or the text leads into a Map's element, which the value is then, and its steps pick nothing of that
abbrev pub PicksNothing : List ℕ → Data → Type 0
PicksNothing s d = PathPicksNothing s d ⊎ ((steps : List ℕ) × (s ≡ codes "$$.Map.Item.Value" ++ steps) × PathPicksNothing (36 ∷ steps) d)

-- the text is that of a path by which nothing can be placed in the value
abbrev pub PlacesNothing : List ℕ → Data → Type 0
PlacesNothing s d = (p : List PathStep) × SpellsPath p s × ((value : Data) → place_at p value d ≡ None)

abbrev pub is_list : Data → Bool
is_list (list ds) = true
is_list _ = false

-- ---- calls

-- a field of an object
abbrev pub field_in : List ℕ → Data → Option Data
field_in name (fields ms) = get_field name (field_pairs ms)
field_in name _ = None

abbrev pub is_object_data : Data → Bool
is_object_data (fields ms) = true
is_object_data _ = false

-- what a flaw says of the value that is to be the action's call
abbrev pub HasFlaw : Action → Data → Flaw → Type 0
HasFlaw action d flaw.NoObject = is_object_data d ≡ false
HasFlaw action d (flaw.UnknownField name) = (may_have action name ≡ false) × (is_some (field_in name d) ≡ true)
HasFlaw action d (flaw.MissingField name) = ((name ≡ codes "TableName") ⊎ (name ≡ item_field action)) × (field_in name d ≡ None)
HasFlaw action d flaw.BadTableName = option_and_then text_of (field_in (codes "TableName") d) ≡ None
HasFlaw action d flaw.BadItem = option_and_then (λ item. Some (is_object_data item)) (field_in (item_field action) d) ≡ Some false
HasFlaw action d (flaw.BadAttribute name fault) = (value : Data) × (option_and_then (field_in name) (field_in (item_field action) d) ≡ Some value) × (read_datum 32 value ≡ Err fault)
HasFlaw action d flaw.BadReturnValues = returns_of (field_in (codes "ReturnValues") d) ≡ None
HasFlaw action d flaw.BadCondition = condition_in (field_in (codes "ConditionExpression") d) ≡ None

-- a delete with nothing but a condition to be wrong
abbrev pub conditioned : Data → Data
conditioned d = fields (member (codes "ConditionExpression") d (member (codes "Key") (fields no_members) (member (codes "TableName") (text []) no_members)))

-- ---- keys

abbrev pub is_sort : Option KeyAttribute → List ℕ → Bool
is_sort None name = false
is_sort (Some a) name = is_text name a.name

-- whether an attribute of this name is of the table's key
abbrev pub is_part : KeySchema → List ℕ → Bool
is_part schema name = is_text name schema.partition.name || is_sort schema.sort name
