use Rattle.std.proofs.Common.{◌≡◌, true, Some, sym, ap, ◌∙◌, subst, refl}
use Rattle.item_store.specs.Store.{slot_key, has_slot_of}
use Rattle.item_store.proofs.Slots.{found_key, on_err, one_slot}
use Rattle.item_store.proofs.store.ItemStore.slot.Goals as goal

pub add-requires : goal.add-requires
add-requires c = ap (λ s. has_slot_of s c.args.key) (sym c.self.view_is) ∙ sym c.in-None.ensures.found

pub returns-in-Some-clause-slots : goal.returns-in-Some-clause-slots
returns-in-Some-clause-slots c =
    let there : has_slot_of c.args.self.now c.args.key ≡ true = ap (λ s. has_slot_of s c.args.key) (sym c.self.view_is) ∙ sym c.in-Some.ensures.found in
    rw there refl

pub returns-in-Some-clause-found : goal.returns-in-Some-clause-found
returns-in-Some-clause-found c =
    subst (λ s. slot_key s (record { index = c.in-Some.index }) ≡ Some c.args.key) c.self.view_is
    (found_key c.self.inside.slots c.in-Some.index c.args.key (sym c.in-Some.ensures.index) (sym c.in-Some.ensures.found))

pub returns-in-None-clause-absent : goal.returns-in-None-clause-absent
returns-in-None-clause-absent c = on_err c.add.result _ (ap (λ s. has_slot_of s c.args.key) (sym c.self.view_is) ∙ sym c.in-None.ensures.found)

pub returns-in-Some-clause-one : goal.returns-in-Some-clause-one
returns-in-Some-clause-one c = λ m at.
    one_slot c.self.inside.slots.entries c.self.invariant.unique m (record { index = c.in-Some.index }) c.args.key
    (subst (λ s. slot_key s m ≡ Some c.args.key) (sym c.self.view_is) at)
    (found_key c.self.inside.slots c.in-Some.index c.args.key (sym c.in-Some.ensures.index) (sym c.in-Some.ensures.found))
