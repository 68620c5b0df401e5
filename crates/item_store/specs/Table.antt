-- The table: what a call answers, how it touches which item, and the items afterwards (GetItem, PutItem and DeleteItem of
-- the DynamoDB API). The items are a map from key to item, seen as a function.
use Rattle.std.specs.Prelude.{ℕ, List, Bool, ◌==◌, length, Option, Some, None, Result, Ok, Err, if◌then◌else◌}
use Rattle.std.specs.Map.{update}
use Rattle.std.specs.Ordering.{eq_by_cmp}
use Rattle.json_tree.specs.Data.{Data}
use Rattle.attr_values.specs.Key.{key_cmp, key_of}
use Rattle.attr_values.specs.declared.fault.ItemFault.{ItemFault}
use Rattle.attr_values.specs.declared.fault.ItemFault.TheVariants.{NoKey}
use Rattle.attr_values.specs.declared.key.Key.{Key}
use Rattle.attr_values.specs.declared.key.KeyAttribute.{KeyAttribute}
use Rattle.attr_values.specs.declared.key.KeySchema.{KeySchema}
use Rattle.item_store.specs.Calls.{call_of}
use Rattle.item_store.specs.Condition.{is_text}
use Rattle.item_store.specs.Deciding.{ItemAttributes, Reply, refused, Decision, decision}
use Rattle.item_store.specs.Faults.{validation, no_such_table}
use Rattle.item_store.specs.declared.access.AccessMode.{AccessMode}
use Rattle.item_store.specs.declared.access.AccessMode.TheVariants.{Read, Write}
use Rattle.item_store.specs.declared.call.Action.{Action}
use Rattle.item_store.specs.declared.call.Call.{Call}
use Rattle.item_store.specs.declared.call.Request.{Request}
use Rattle.item_store.specs.declared.call.Request.TheVariants.{Get, Put, Delete}
use Rattle.item_store.specs.declared.fault.CallFault.{CallFault}
use Rattle.item_store.specs.declared.fault.CallFault.TheVariants.{WrongTable, BadKey}

abbrev pub Table : Type 0
Table = Key → Option ItemAttributes

abbrev pub is_same_key : Key → Key → Bool
is_same_key = eq_by_cmp key_cmp

-- the items, with this at the key, or with none there
abbrev pub with_item : Table → Key → Option ItemAttributes → Table
with_item items key item = update is_same_key items key item

-- ---- the key of a request

abbrev pub sort_count : Option KeyAttribute → ℕ
sort_count None = 1
sort_count (Some a) = 2

-- how many attributes a key has
abbrev pub key_count : KeySchema → ℕ
key_count schema = sort_count schema.sort

-- the key that is asked by its attributes: these and no others
abbrev pub exact_key : KeySchema → ItemAttributes → Result Key ItemFault
exact_key schema key = if length key == key_count schema then key_of schema key else Err NoKey

-- a get and a delete name a key, and a put has an item with one
abbrev pub key_in : KeySchema → Request → Result Key ItemFault
key_in schema (Get key) = exact_key schema key
key_in schema (Put item terms) = key_of schema item
key_in schema (Delete key terms) = exact_key schema key

abbrev pub or_bad_key : Result Key ItemFault → Result Key CallFault
or_bad_key (Ok k) = Ok k
or_bad_key (Err e) = Err BadKey

-- the key that a call asks: its table's name is looked at first
abbrev pub key_asked : List ℕ → KeySchema → Call → Result Key CallFault
key_asked table schema c = if is_text c.table table then or_bad_key (key_in schema c.request) else Err WrongTable

-- ---- a call

pub record Outcome : Type 0 where
  pub answer : Reply
  pub access : Option (Key × AccessMode)
  pub items : Table

-- a call that touches no item
abbrev pub no_access : List ℕ → Table → Outcome
no_access error items = record { answer = refused error; access = None; items = items }

abbrev pub told : CallFault → List ℕ
told WrongTable = no_such_table
told _ = validation

abbrev pub table_after : Table → Key → AccessMode → Option ItemAttributes → Table
table_after items key Read new = items
table_after items key Write new = with_item items key new

-- what is decided on the item of the key happens to that item alone
abbrev pub at_key : Table → Key → Decision → Outcome
at_key items key d = record { answer = d.answer; access = Some (key, d.access); items = table_after items key d.access d.new }

abbrev pub on_key : Table → Request → Result Key CallFault → Outcome
on_key items request (Ok key) = at_key items key (decision request (items key))
on_key items request (Err e) = no_access (told e) items

-- a call of the right form
abbrev pub in_form : List ℕ → KeySchema → Table → Call → Outcome
in_form table schema items c = on_key items c.request (key_asked table schema c)

abbrev pub on_form : List ℕ → KeySchema → Table → Option Call → Outcome
on_form table schema items None = no_access validation items
on_form table schema items (Some c) = in_form table schema items c

-- the call that a value writes, to the table of this name, with keys of this schema and these items
abbrev pub call : List ℕ → KeySchema → Table → Action → Data → Outcome
call table schema items action d = on_form table schema items (call_of action d)
