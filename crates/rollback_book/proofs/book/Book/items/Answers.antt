use Rattle.std.proofs.Common.{sym, subst}
use Rattle.item_store.specs.Listing.{IsListing, items_left}
use Rattle.item_store.specs.Store.{Store, stored_items}
use Rattle.saved_steps.specs.World.{World}
use Rattle.book_log.specs.Log.{world_of}
use Rattle.rollback_book.specs.Book.{BookView}
use Rattle.rollback_book.proofs.Tied.{world_is}
use Rattle.rollback_book.proofs.book.Book.items.Goals as goal

pub returns-clause-items : goal.returns-clause-items
returns-clause-items c =
    subst (λ (b : BookView). IsListing (world_of b.log).items (items_left c.items-2.result)) c.self.view_is
    (subst (λ (w : World). IsListing w.items (items_left c.items-2.result)) (sym (world_is _ c.self.invariant))
    (subst (λ (s : Store). IsListing (stored_items s) (items_left c.items-2.result)) c.items.ensures c.items-2.ensures.items))
