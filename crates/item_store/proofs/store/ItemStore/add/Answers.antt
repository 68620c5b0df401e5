use Rattle.std.proofs.Common.{◌≡◌, [], ◌∷◌, ◌++◌, slice_get, Some, None, cond, IsOk, arith, ap, ◌∙◌, subst}
use Rattle.std.specs.BTreeMap.{is_at}
use Rattle.std.specs.Map.{keys_of, lookup}
use Rattle.indexmap.specs.IndexMap.{insert_entry}
use Rattle.indexmap.proofs.CallerLemmas.{insert_entry-new}
use Rattle.attr_values.specs.Key.{key_cmp}
use Rattle.attr_values.specs.declared.key.Key.{Key}
use Rattle.item_store.specs.Store.{Slots, Store, stored_items, has_slot_of, with_slot}
use Rattle.item_store.specs.Table.{is_same_key}
use Rattle.item_store.specs.declared.slot.SlotNo.{SlotNo}
use Rattle.item_store.proofs.Slots.{added_indexed, added_items, added_store, last_key, none_of, kept_with_slot, one_slot, ok_gives}
use Rattle.item_store.proofs.store.ItemStore.add.Goals as goal

abbrev slot_of : goal.Joined-insert → SlotNo
slot_of c = record { index = c.len.result }

abbrev store_of : goal.Joined-insert → Store
store_of c = record { table = c.self.inside.table; schema = c.self.inside.schema; slots = c.self.inside.slots.entries }

absent : (c : goal.Joined-insert) → lookup (is_same_key c.args.key) c.self.inside.slots.entries ≡ None
absent c = none_of _ (ap (λ s. has_slot_of s c.args.key) c.self.view_is ∙ c.requires)

inserted : (c : goal.Joined-insert) → IsOk c.insert-2.result
inserted c = c.insert-2.ensures.succeeds (omega (arith, c.in_ok-reserve.ensures.ok))

entries_are : (c : goal.Joined-insert) → c.insert-2.new.self.entries ≡ c.self.inside.slots.entries ++ (c.args.key, None) ∷ []
entries_are c =
    ok_gives c.insert-2.result _ (inserted c) c.insert-2.ensures.entries ∙ ap (λ es. insert_entry is_same_key es c.args.key None) c.in_ok-reserve.ensures.entries
    ∙ insert_entry-new is_same_key c.self.inside.slots c.args.key None (absent c)

found_after : (c : goal.Joined-insert) (q : Key) → lookup (is_same_key q) c.insert-2.new.self.entries ≡ cond (is_same_key c.args.key q) (Some None) (lookup (is_same_key q) c.self.inside.slots.entries)
found_after c =
    subst (λ (es : Slots). (q : Key) → lookup (is_same_key q) c.insert-2.new.self.entries ≡ cond (is_same_key c.args.key q) (Some None) (lookup (is_same_key q) es))
    c.in_ok-reserve.ensures.entries (ok_gives c.insert-2.result _ (inserted c) c.insert-2.ensures.updates).0

ordered_after : (c : goal.Joined-insert) (q : Key) → lookup (is_at (key_cmp q)) c.insert.new.self.entries ≡ cond (is_at (key_cmp c.args.key) q) (Some (slot_of c)) (lookup (is_at (key_cmp q)) c.self.inside.order.entries)
ordered_after c =
    subst (λ (k : Key). (q : Key) → lookup (is_at (key_cmp q)) c.insert.new.self.entries ≡ cond (is_at (key_cmp k) q) (Some (slot_of c)) (lookup (is_at (key_cmp q)) c.self.inside.order.entries))
    c.in_ok-copy.ensures c.in_ok-insert.ensures.updates.0

pub invariant_of-self-2 : goal.invariant_of-self-2
invariant_of-self-2 c =
    added_indexed c.self.inside.slots.entries c.insert-2.new.self.entries c.self.inside.order.entries c.insert.new.self.entries c.args.key (slot_of c)
    c.self.invariant c.len.ensures.len (entries_are c) c.insert-2.ensures.unique (ordered_after c) (found_after c)

pub returns-clause-slots : goal.returns-clause-slots
returns-clause-slots c =
    added_store (store_of c) c.args.key c.insert-2.new.self.entries (ap (λ s. has_slot_of s c.args.key) c.self.view_is ∙ c.requires) (entries_are c)
    ∙ ap (λ s. with_slot s c.args.key) c.self.view_is

pub returns-clause-found : goal.returns-clause-found
returns-clause-found c =
    ap (λ s. slice_get (keys_of s) c.len.result) (entries_are c) ∙ ap (slice_get (keys_of (c.self.inside.slots.entries ++ (c.args.key, None) ∷ []))) c.len.ensures.len
    ∙ last_key c.self.inside.slots.entries c.args.key

pub returns-clause-items : goal.returns-clause-items
returns-clause-items c =
    added_items c.self.inside.slots.entries c.insert-2.new.self.entries c.args.key (absent c) (found_after c) ∙ ap stored_items c.self.view_is

pub returns-clause-one : goal.returns-clause-one
returns-clause-one c = λ m at. one_slot c.insert-2.new.self.entries c.insert-2.ensures.unique m (slot_of c) c.args.key at (returns-clause-found c)

pub returns-clause-kept : goal.returns-clause-kept
returns-clause-kept c = kept_with_slot c.args.self.now _ c.args.key (returns-clause-slots c)
