use Rattle.item_store.specs.Store.{stored_items}
use Rattle.saved_steps.proofs.TakenBack.{swapped_back}
use Rattle.saved_steps.proofs.undoing.give_item_back.Goals as goal

pub returns-in-Write-clause-items : goal.returns-in-Write-clause-items
returns-in-Write-clause-items c =
    let s = c.requires in
    swapped_back (stored_items c.args.items.now) (stored_items c.swap.new.self) c.args.access.now s.0 c.in-Some.access c.args.old s.1 c.in-Some.is c.in-Write.is (c.swap.ensures.items s.0.key s.2)
