-- A store as contracts see it: its table's name and keys, and its slots with what stands in each, in the order of their
-- making. The items by their keys, and which key a slot has, are functions of these.
use Rattle.std.specs.Prelude.{◌≡◌, ℕ, List, [], ◌∷◌, ◌++◌, Bool, Option, Some, None, is_some, slice_get, if◌then◌else◌}
use Rattle.std.specs.BTreeMap.{is_at}
use Rattle.std.specs.List.{IsDistinct}
use Rattle.std.specs.Map.{keys_of, lookup}
use Rattle.attr_values.specs.Key.{key_cmp}
use Rattle.attr_values.specs.declared.key.Key.{Key}
use Rattle.attr_values.specs.declared.key.KeySchema.{KeySchema}
use Rattle.item_store.specs.Deciding.{ItemAttributes}
use Rattle.item_store.specs.Table.{Table, is_same_key}
use Rattle.item_store.specs.declared.slot.SlotNo.{SlotNo}

abbrev pub Slots : Type 0
Slots = List (Key × Option ItemAttributes)

pub record Store : Type 0 where
  pub table : List ℕ
  pub schema : KeySchema
  pub slots : Slots

abbrev pub what_stands : {A : Type 0} → Option (Option A) → Option A
what_stands None = None
what_stands (Some x) = x

-- what stands in the slot of each key, if it has one
abbrev pub items_in : Slots → Table
items_in slots key = what_stands (lookup (is_same_key key) slots)

-- the items by their keys
abbrev pub stored_items : Store → Table
stored_items s = items_in s.slots

-- the keys of the slots, in the order of their making
abbrev pub slot_keys : Store → List Key
slot_keys s = keys_of s.slots

-- the key of a slot, if the store has the slot
abbrev pub slot_key : Store → SlotNo → Option Key
slot_key s slot = slice_get (slot_keys s) slot.index

abbrev pub has_slot_of : Store → Key → Bool
has_slot_of s key = is_some (lookup (is_same_key key) s.slots)

-- the store, with a slot of the key: the one that is there, or a new one in which nothing stands
abbrev pub with_slot : Store → Key → Store
with_slot s key = if has_slot_of s key then s else record { table = s.table; schema = s.schema; slots = s.slots ++ (key, None) ∷ [] }

-- no two slots have one key, and the order leads from a key to the number of its slot
pub record IsIndexed (slots : Slots) (order : List (Key × SlotNo)) : Type 0 where
  pub unique : IsDistinct is_same_key (keys_of slots)
  pub numbered : (key : Key) (n : SlotNo) → lookup (is_at (key_cmp key)) order ≡ Some n → slice_get (keys_of slots) n.index ≡ Some key
  pub whole : (key : Key) → is_some (lookup (is_at (key_cmp key)) order) ≡ is_some (lookup (is_same_key key) slots)
