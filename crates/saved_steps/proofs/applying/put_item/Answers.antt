use Rattle.std.proofs.Common.{refl, Some}
use Rattle.item_store.specs.Store.{stored_items}
use Rattle.saved_steps.proofs.TakenBack.{swapped_back}
use Rattle.saved_steps.proofs.applying.put_item.Goals as goal

pub returns-in-Write-clause-items : goal.returns-in-Write-clause-items
returns-in-Write-clause-items c =
    let a = c.args.access.now in
    swapped_back (stored_items c.args.items.now) (stored_items c.swap.new.self) (Some a) a a c.args.new refl refl c.in-Write.is (c.swap.ensures.items a.key c.requires)
