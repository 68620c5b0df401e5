-- What holds of calls and of slots over several calls.
use Rattle.std.specs.Prelude.{◌≡◌, ℕ, List, false, Option, Some, None}
use Rattle.json_tree.specs.Data.{Data}
use Rattle.attr_values.specs.declared.key.Key.{Key}
use Rattle.attr_values.specs.declared.key.KeySchema.{KeySchema}
use Rattle.item_store.specs.Deciding.{ItemAttributes}
use Rattle.item_store.specs.Table.{Table, Outcome, is_same_key, with_item, call}
use Rattle.item_store.specs.declared.access.AccessMode.{AccessMode}
use Rattle.item_store.specs.declared.access.AccessMode.TheVariants.{Read, Write}
use Rattle.item_store.specs.declared.call.Action.{Action}

-- what an access may change: a write its key's item, and all else nothing
abbrev pub ChangesOnly : Option (Key × AccessMode) → Table → Table → Type 0
ChangesOnly None before after = after ≡ before
ChangesOnly (Some (key, Read)) before after = after ≡ before
ChangesOnly (Some (key, Write)) before after = (q : Key) → is_same_key key q ≡ false → after q ≡ before q

-- a call changes no item but the one that its access names as written
abbrev pub CallsChangeOneItem : Type 0
CallsChangeOneItem = (table : List ℕ) (schema : KeySchema) (items : Table) (action : Action) (d : Data)
    → let o = call table schema items action d in ChangesOnly o.access items o.items

-- two tables have one item at the key of an access
abbrev pub AgreeAtKey : Option (Key × AccessMode) → Table → Table → Type 0
AgreeAtKey None a b = Unit {0}
AgreeAtKey (Some access) a b = a access.0 ≡ b access.0

pub record SameOutcome (o p : Outcome) : Type 0 where
  pub answer : o.answer ≡ p.answer
  pub access : o.access ≡ p.access
  pub item : AgreeAtKey o.access o.items p.items

-- a call looks at no item but the one that its access names
abbrev pub CallsLookAtOneItem : Type 0
CallsLookAtOneItem = (table : List ℕ) (schema : KeySchema) (a b : Table) (action : Action) (d : Data)
    → AgreeAtKey (call table schema a action d).access a b → SameOutcome (call table schema a action d) (call table schema b action d)

-- an item that is put at a key, and then what stood there put back, is no change
abbrev pub SwapsAreUndone : Type 0
SwapsAreUndone = (items : Table) (key : Key) (item : Option ItemAttributes) → with_item (with_item items key item) key (items key) ≡ items
