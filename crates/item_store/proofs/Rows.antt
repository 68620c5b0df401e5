-- Rows of calls, checked by computing.
use Rattle.std.proofs.Common.{◌≡◌, ℕ, List, [], ◌∷◌, true, Some, None, codes, refl}
use Rattle.json_tree.specs.Data.{Data, boolean, text, fields, no_members, member}
use Rattle.attr_values.specs.Datum.{text as text_datum}
use Rattle.attr_values.specs.declared.key.KeySchema.{KeySchema}
use Rattle.attr_values.specs.declared.key.KeyType.TheVariants.{S}
use Rattle.item_store.specs.Condition.{condition_of, condition_on}
use Rattle.item_store.specs.Deciding.{ItemAttributes, given, refused, read_only, decision}
use Rattle.item_store.specs.Faults.{validation, no_such_table, check_failed}
use Rattle.item_store.specs.Table.{Table, call, no_access}
use Rattle.item_store.specs.declared.access.AccessMode.TheVariants.{Write}
use Rattle.item_store.specs.declared.call.Action.TheVariants.{GetItem, DeleteItem}
use Rattle.item_store.specs.declared.call.ConditionKind.TheVariants.{Exists, NotExists}
use Rattle.item_store.specs.declared.call.Request.TheVariants.{Put, Delete}
use Rattle.item_store.specs.declared.call.ReturnValues.TheVariants.{AllOld}

spaces_stand : condition_of (codes "  attribute_exists( v_1  ) ") ≡ Some (condition_on Exists (codes "v_1"))
spaces_stand = refl

not_there : condition_of (codes "attribute_not_exists(id)") ≡ Some (condition_on NotExists (codes "id"))
not_there = refl

no_space_before_bracket : condition_of (codes "attribute_exists (v)") ≡ None
no_space_before_bracket = refl

one_attribute : condition_of (codes "attribute_exists(a b)") ≡ None
one_attribute = refl

no_digit_first : condition_of (codes "attribute_exists(1)") ≡ None
no_digit_first = refl

abbrev old_item : ItemAttributes
old_item = (codes "id", text_datum (codes "k")) ∷ []

-- a put with `attribute_not_exists(id)` on an item that is there reads it, and is refused
refused_put : decision (Put old_item (record { condition = Some (condition_on NotExists (codes "id")); returns = AllOld })) (Some old_item) ≡ read_only (refused check_failed)
refused_put = refl

-- a delete of nothing writes, and has no old item to answer
delete_of_nothing : decision (Delete old_item (record { condition = None; returns = AllOld })) None ≡ record { answer = given (fields no_members); access = Write; new = None }
delete_of_nothing = refl

abbrev by_id : KeySchema
by_id = record { partition = record { name = codes "id"; kind = S }; sort = None }

-- {"Key":{"id":{"S":"k"}},"TableName":..} with one field more
abbrev get_from : List ℕ → List ℕ → Data
get_from table last =
    fields (member (codes "Key") (fields (member (codes "id") (fields (member (codes "S") (text (codes "k")) no_members)) no_members)) (member (codes "TableName") (text table) (member last (boolean true) no_members)))

unknown_field : (items : Table) → call (codes "items") by_id items GetItem (get_from (codes "items") (codes "Unknown")) ≡ no_access validation items
unknown_field items = refl

other_table : (items : Table) → call (codes "items") by_id items GetItem (get_from (codes "other") (codes "ConsistentRead")) ≡ no_access no_such_table items
other_table items = refl

no_consistent_delete : (items : Table) → call (codes "items") by_id items DeleteItem (get_from (codes "items") (codes "ConsistentRead")) ≡ no_access validation items
no_consistent_delete items = refl
