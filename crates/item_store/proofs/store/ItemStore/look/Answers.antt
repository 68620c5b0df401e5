use Rattle.std.proofs.Common.{◌≡◌, Some, sym, ap, ◌∙◌, subst}
use Rattle.item_store.specs.Store.{slot_key, stored_items}
use Rattle.item_store.proofs.Slots.{standing}
use Rattle.item_store.proofs.store.ItemStore.look.Goals as goal

pub returns : goal.returns
returns c = λ key at.
    let inside = subst (λ s. slot_key s c.args.slot ≡ Some key) (sym c.self.view_is) at in
    c.as_ref.ensures.value ∙ standing c.self.inside.slots c.args.slot.index key c.index.result.now c.self.invariant.unique inside c.index.ensures
    ∙ ap (λ s. stored_items s key) c.self.view_is
