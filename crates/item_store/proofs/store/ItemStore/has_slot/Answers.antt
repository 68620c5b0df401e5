use Rattle.std.proofs.Common.{is_some, ap, ◌∙◌}
use Rattle.item_store.specs.Store.{slot_key}
use Rattle.item_store.proofs.Slots.{has_entry}
use Rattle.item_store.proofs.store.ItemStore.has_slot.Goals as goal

pub returns : goal.returns
returns c =
    c.is_some.ensures ∙ has_entry _ c.get_index.result c.self.inside.slots.entries c.args.slot.index c.get_index.ensures.entry
    ∙ ap (λ s. is_some (slot_key s c.args.slot)) c.self.view_is
