-- The form of calls (GetItem, PutItem and DeleteItem of the DynamoDB API): an object, whose fields are those of its action.
use Rattle.std.specs.Prelude.{ℕ, List, [], ◌∷◌, Bool, false, if◌then◌else◌, Option, Some, None, option_map, option_and_then, codes, Result, Ok, Err}
use Rattle.std.specs.List.{list_any, list_all}
use Rattle.std.specs.Option.{option_map_or}
use Rattle.json_tree.specs.Data.{Data, text, fields, Members, no_members, member}
use Rattle.json_tree.specs.Fields.{get_field}
use Rattle.attr_values.specs.Datum.{Datum, Attributes, no_attributes, attribute}
use Rattle.attr_values.specs.Reading.{read_item, is_object}
use Rattle.attr_values.specs.declared.fault.ItemFault.{ItemFault}
use Rattle.item_store.specs.Condition.{is_text, condition_of}
use Rattle.item_store.specs.declared.call.Action.{Action}
use Rattle.item_store.specs.declared.call.Action.TheVariants.{GetItem, PutItem, DeleteItem}
use Rattle.item_store.specs.declared.call.Call.{Call}
use Rattle.item_store.specs.declared.call.Condition.{Condition}
use Rattle.item_store.specs.declared.call.Request.{Request}
use Rattle.item_store.specs.declared.call.Request.TheVariants.{Get, Put, Delete}
use Rattle.item_store.specs.declared.call.ReturnValues.{ReturnValues}
use Rattle.item_store.specs.declared.call.ReturnValues.TheVariants.{Nothing, AllOld}
use Rattle.item_store.specs.declared.call.Terms.{Terms}

-- the fields of an object, in order
abbrev pub field_pairs : Members → List (List ℕ × Data)
field_pairs no_members = []
field_pairs (member k d ms) = (k, d) ∷ field_pairs ms

-- the attributes of an item, in order
abbrev pub attribute_pairs : Attributes → List (List ℕ × Datum)
attribute_pairs no_attributes = []
attribute_pairs (attribute k d ms) = (k, d) ∷ attribute_pairs ms

-- the fields that each action may have, those that are unread among them
abbrev pub field_names : Action → List (List ℕ)
field_names GetItem = codes "TableName" ∷ codes "Key" ∷ codes "ConsistentRead" ∷ codes "ReturnConsumedCapacity" ∷ codes "ReturnItemCollectionMetrics" ∷ []
field_names PutItem =
    codes "TableName" ∷ codes "Item" ∷ codes "ConditionExpression" ∷ codes "ReturnValues" ∷ codes "ReturnConsumedCapacity" ∷ codes "ReturnItemCollectionMetrics" ∷ []
field_names DeleteItem =
    codes "TableName" ∷ codes "Key" ∷ codes "ConditionExpression" ∷ codes "ReturnValues" ∷ codes "ReturnConsumedCapacity" ∷ codes "ReturnItemCollectionMetrics" ∷ []

abbrev pub may_have : Action → List ℕ → Bool
may_have action name = list_any (λ known. is_text known name) (field_names action)

abbrev pub has_its_fields : Action → List (List ℕ × Data) → Bool
has_its_fields action ms = list_all (λ m. may_have action m.0) ms

-- the field that has the item, or the key
abbrev pub item_field : Action → List ℕ
item_field GetItem = codes "Key"
item_field PutItem = codes "Item"
item_field DeleteItem = codes "Key"

abbrev pub text_of : Data → Option (List ℕ)
text_of (text s) = Some s
text_of _ = None

-- `NONE` is meant where nothing is said
abbrev pub returns_of : Option Data → Option ReturnValues
returns_of None = Some Nothing
returns_of (Some (text s)) = if is_text s (codes "NONE") then Some Nothing else if is_text s (codes "ALL_OLD") then Some AllOld else None
returns_of (Some _) = None

abbrev pub condition_in : Option Data → Option (Option Condition)
condition_in None = Some None
condition_in (Some (text s)) = option_map Some (condition_of s)
condition_in (Some _) = None

abbrev pub terms_from : Option (Option Condition) → Option ReturnValues → Option Terms
terms_from condition returns = option_and_then (λ c. option_map (λ r. record { condition = c; returns = r }) returns) condition

abbrev pub terms_of : List (List ℕ × Data) → Option Terms
terms_of ms = terms_from (condition_in (get_field (codes "ConditionExpression") ms)) (returns_of (get_field (codes "ReturnValues") ms))

-- a call but for the values of its item or key
pub record Form : Type 0 where
  pub table : List ℕ
  pub item : Data
  pub terms : Terms

abbrev pub form_from : Option (List ℕ) → Option Data → Option Terms → Option Form
form_from table item terms =
    option_and_then (λ t. option_and_then (λ i. option_map (λ s. record { table = t; item = i; terms = s }) terms) item) table

abbrev pub form_in : Action → List (List ℕ × Data) → Option Form
form_in action ms =
    if has_its_fields action ms
    then form_from (option_and_then text_of (get_field (codes "TableName") ms)) (get_field (item_field action) ms) (terms_of ms)
    else None

abbrev pub form_of : Action → Data → Option Form
form_of action (fields ms) = form_in action (field_pairs ms)
form_of action _ = None

abbrev pub request_of : Action → List (List ℕ × Datum) → Terms → Request
request_of GetItem key terms = Get key
request_of PutItem item terms = Put item terms
request_of DeleteItem key terms = Delete key terms

abbrev pub item_pairs : Result Attributes ItemFault → Option (List (List ℕ × Datum))
item_pairs (Ok ms) = Some (attribute_pairs ms)
item_pairs (Err e) = None

-- the call that a form makes, where its item or key is one
abbrev pub call_from : Action → Form → Option Call
call_from action f = option_map (λ item. record { table = f.table; request = request_of action item f.terms }) (item_pairs (read_item f.item))

-- the call that a value writes, if any
abbrev pub call_of : Action → Data → Option Call
call_of action d = option_and_then (call_from action) (form_of action d)

-- whether nothing but the values of its item or key may be wrong: only to read these takes memory
abbrev pub has_form : Action → Data → Bool
has_form action d = option_map_or (λ f. is_object f.item) (form_of action d) false
