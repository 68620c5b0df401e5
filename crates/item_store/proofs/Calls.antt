-- A call touches the item of its key alone.
use Rattle.std.proofs.Common.{◌≡◌, ℕ, List, Bool, true, false, cond, Option, Some, None, Result, Ok, Err, refl, ap, ◌∙◌}
use Rattle.std.proofs.Math.Path.{fun_ext}
use Rattle.attr_values.specs.declared.key.Key.{Key}
use Rattle.attr_values.specs.declared.key.KeySchema.{KeySchema}
use Rattle.item_store.specs.Deciding.{ItemAttributes, decision}
use Rattle.item_store.specs.Laws.{ChangesOnly, AgreeAtKey, SameOutcome, CallsChangeOneItem, CallsLookAtOneItem, SwapsAreUndone}
use Rattle.item_store.specs.Calls.{call_of}
use Rattle.item_store.specs.Table.{Table, is_same_key, key_asked, on_form, on_key, table_after}
use Rattle.item_store.specs.declared.access.AccessMode.{AccessMode}
use Rattle.item_store.specs.declared.access.AccessMode.TheVariants.{Read, Write}
use Rattle.item_store.specs.declared.call.Call.{Call}
use Rattle.item_store.specs.declared.call.Request.{Request}
use Rattle.item_store.specs.declared.fault.CallFault.{CallFault}
use Rattle.item_store.proofs.Slots.{same_key}

changes_at : (items : Table) (key : Key) (mode : AccessMode) (new : Option ItemAttributes) → ChangesOnly (Some (key, mode)) items (table_after items key mode new)
changes_at items key Read new = refl
changes_at items key Write new = λ q apart. ap (λ b. cond b new (items q)) apart

changes_key : (items : Table) (request : Request) (r : Result Key CallFault) → ChangesOnly (on_key items request r).access items (on_key items request r).items
changes_key items request (Ok key) = changes_at items key (decision request (items key)).access (decision request (items key)).new
changes_key items request (Err e) = refl

changes_form : (table : List ℕ) (schema : KeySchema) (items : Table) (c : Option Call) → ChangesOnly (on_form table schema items c).access items (on_form table schema items c).items
changes_form table schema items None = refl
changes_form table schema items (Some c) = changes_key items c.request (key_asked table schema c)

pub calls_change : CallsChangeOneItem
calls_change table schema items action d = changes_form table schema items (call_of action d)

after_at : (a b : Table) (key : Key) (mode : AccessMode) (new : Option ItemAttributes) → a key ≡ b key → table_after a key mode new key ≡ table_after b key mode new key
after_at a b key Read new h = h
after_at a b key Write new h = ap (cond (is_same_key key key) new) h

looks_key : (a b : Table) (request : Request) (r : Result Key CallFault) → AgreeAtKey (on_key a request r).access a b → SameOutcome (on_key a request r) (on_key b request r)
looks_key a b request (Ok key) h =
    let same : decision request (a key) ≡ decision request (b key) = ap (decision request) h in
    record {
      answer = ap (λ d. d.answer) same;
      access = ap (λ d. Some (key, d.access)) same;
      item = after_at a b key (decision request (a key)).access (decision request (a key)).new h ∙ ap (λ d. table_after b key d.access d.new key) same;
    }
looks_key a b request (Err e) h = record { answer = refl; access = refl; item = tt }

looks_form : (table : List ℕ) (schema : KeySchema) (a b : Table) (c : Option Call) → AgreeAtKey (on_form table schema a c).access a b → SameOutcome (on_form table schema a c) (on_form table schema b c)
looks_form table schema a b None h = record { answer = refl; access = refl; item = tt }
looks_form table schema a b (Some c) h = looks_key a b c.request (key_asked table schema c) h

pub calls_look : CallsLookAtOneItem
calls_look table schema a b action d h = looks_form table schema a b (call_of action d) h

undone_by : (b : Bool) (item old here : Option ItemAttributes) → (b ≡ true → old ≡ here) → cond b old (cond b item here) ≡ here
undone_by true item old here h = h refl
undone_by false item old here h = refl

pub swaps_undone : SwapsAreUndone
swaps_undone items key item = fun_ext (λ q. undone_by (is_same_key key q) item (items key) (items q) (λ e. ap items (same_key key q e)))
