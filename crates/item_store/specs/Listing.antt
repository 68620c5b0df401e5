-- The items of a table in the order of their keys.
use Rattle.std.specs.Prelude.{◌≡◌, List, [], ◌∷◌, Option, Some, None, option_and_then, slice_get}
use Rattle.std.specs.BTreeMap.{is_at}
use Rattle.std.specs.List.Sorted.{IsStrictlySortedBy}
use Rattle.std.specs.Map.{keys_of, values_of, lookup}
use Rattle.attr_values.specs.Key.{key_cmp}
use Rattle.attr_values.specs.declared.key.Key.{Key}
use Rattle.item_store.specs.Deciding.{ItemAttributes}
use Rattle.item_store.specs.Store.{Slots}
use Rattle.item_store.specs.Table.{Table}
use Rattle.item_store.specs.declared.listing.Items.{Items}
use Rattle.item_store.specs.declared.slot.SlotNo.{SlotNo}

-- these are the items of a table, each once, in the order of their keys
pub record IsListing (items : Table) (listed : List ItemAttributes) : Type 0 where
  pub entries : List (Key × ItemAttributes)
  pub values : values_of entries ≡ listed
  pub ordered : IsStrictlySortedBy key_cmp (keys_of entries)
  pub whole : (key : Key) → lookup (is_at (key_cmp key)) entries ≡ items key

-- what stands in a slot
abbrev pub item_at : Slots → SlotNo → Option ItemAttributes
item_at slots n = option_and_then (λ e. e.1) (slice_get slots n.index)

abbrev pub with_listed : Key → Option ItemAttributes → List (Key × ItemAttributes) → List (Key × ItemAttributes)
with_listed key None rest = rest
with_listed key (Some item) rest = (key, item) ∷ rest

-- the items that stand in the slots of some keys, with these keys
abbrev pub entries_in : Slots → List (Key × SlotNo) → List (Key × ItemAttributes)
entries_in slots [] = []
entries_in slots (e ∷ es) = with_listed e.0 (item_at slots e.1) (entries_in slots es)

-- what an iterator has still to give
abbrev pub items_left : Items → List ItemAttributes
items_left i = values_of (entries_in i.slots.now.entries i.order)
