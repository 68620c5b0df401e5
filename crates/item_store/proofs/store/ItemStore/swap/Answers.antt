use Rattle.std.proofs.Common.{◌≡◌, Some, is_some, sym, ap, ◌∙◌, subst}
use Rattle.indexmap.specs.IndexMap.{set_value_at}
use Rattle.indexmap.proofs.CallerLemmas.{keys-with_value_at}
use Rattle.item_store.specs.Store.{slot_key, slot_keys, stored_items}
use Rattle.item_store.specs.Table.{with_item}
use Rattle.item_store.proofs.Slots.{some_is, stands, standing, swapped, swapped_indexed, write_updates}
use Rattle.item_store.proofs.store.ItemStore.swap.Goals as goal

pub invariant_of-self : goal.invariant_of-self
invariant_of-self c =
    let m = c.self.inside.slots in
    let i = c.args.slot.index in
    let w = c.replace.new.dest in
    let k = some_is _ c.requires in
    let at = subst (λ s. slot_key s c.args.slot ≡ Some k.0) (sym c.self.view_is) k.1 in
    swapped_indexed m.entries (set_value_at m.entries i w) c.self.inside.order.entries k.0 w c.self.invariant (keys-with_value_at m i w)
    (write_updates m i k.0 _ w c.self.invariant.unique at c.index_mut.ensures.value) (ap is_some (stands m i k.0 _ c.self.invariant.unique at c.index_mut.ensures.value))

pub returns-clause-old : goal.returns-clause-old
returns-clause-old c = λ key at.
    let inside = subst (λ s. slot_key s c.args.slot ≡ Some key) (sym c.self.view_is) at in
    c.replace.ensures.value ∙ standing c.self.inside.slots c.args.slot.index key _ c.self.invariant.unique inside c.index_mut.ensures.value ∙ ap (λ s. stored_items s key) c.self.view_is

pub returns-clause-items : goal.returns-clause-items
returns-clause-items c = λ key at.
    let m = c.self.inside.slots in
    let i = c.args.slot.index in
    let w = c.replace.new.dest in
    let inside = subst (λ s. slot_key s c.args.slot ≡ Some key) (sym c.self.view_is) at in
    swapped m.entries (set_value_at m.entries i w) key w (write_updates m i key _ w c.self.invariant.unique inside c.index_mut.ensures.value)
    ∙ ap (λ s. with_item (stored_items s) key w) c.self.view_is ∙ ap (with_item (stored_items c.args.self.now) key) c.replace.ensures.after

pub returns-clause-slots : goal.returns-clause-slots
returns-clause-slots c = keys-with_value_at c.self.inside.slots c.args.slot.index c.replace.new.dest ∙ ap slot_keys c.self.view_is
