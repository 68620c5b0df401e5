use Rattle.std.proofs.Common.{◌≡◌, length}
use Rattle.item_store.specs.Listing.{items_left}
use Rattle.item_store.proofs.listing.ItemsIterator.next.Given as goal

abbrev pub invariant-loop-slot : goal.invariant-loop-slot
invariant-loop-slot l = items_left l.self ≡ items_left l.fn.self

abbrev pub decreases-loop-slot : goal.decreases-loop-slot
decreases-loop-slot l = length l.self.order
