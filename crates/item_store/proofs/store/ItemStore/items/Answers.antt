use Rattle.std.proofs.Common.{◌≡◌, length, arith, sym, ap, ◌∙◌, subst}
use Rattle.std.specs.Map.{values_of}
use Rattle.item_store.specs.Listing.{IsListing, entries_in, items_left}
use Rattle.item_store.specs.Store.{items_in, stored_items}
use Rattle.item_store.proofs.Listings.{listing, entries_fewer}
use Rattle.item_store.proofs.store.ItemStore.items.Goals as goal

pub returns-clause-items : goal.returns-clause-items
returns-clause-items c =
    let m = c.self.inside.slots in
    let order = c.self.inside.order.entries in
    let all_order : c.new.result.order ≡ order = c.new.ensures.order ∙ c.iter.ensures.rest in
    let all_left : items_left c.new.result ≡ values_of (entries_in m.entries order) = λ j. values_of (entries_in (c.new.ensures.slots j).entries (all_order j)) in
    subst (λ s. IsListing (stored_items s) (items_left c.new.result)) c.self.view_is
    (subst (IsListing (items_in m.entries)) (sym all_left) (listing m order c.self.invariant c.iter.ensures.ordered))

pub returns-clause-fits : goal.returns-clause-fits
returns-clause-fits c =
    let m = c.self.inside.slots in
    let order = c.self.inside.order.entries in
    let all_order : c.new.result.order ≡ order = c.new.ensures.order ∙ c.iter.ensures.rest in
    let all_left : items_left c.new.result ≡ values_of (entries_in m.entries order) = λ j. values_of (entries_in (c.new.ensures.slots j).entries (all_order j)) in
    let fewer = entries_fewer m.entries order in
    let same = ap length all_left in
    let fits = c.iter.ensures.fits in
    omega (arith, fewer, same, fits)
