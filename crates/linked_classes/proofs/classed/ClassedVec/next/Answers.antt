use Rattle.std.proofs.Common.{◌≡◌, ◌<◌, ℕ, None, Some, length, map, ap, sym, subst, ◌∙◌}
use Rattle.std.specs.Prelude.{option_map, IfSome}
use Rattle.linked_classes.specs.Cells.{cell_at}
use Rattle.linked_classes.specs.Classes.{class_of}
use Rattle.linked_classes.specs.Linked.{IsNext, Rises}
use Rattle.linked_classes.specs.Places.{IsNumber, place_in}
use Rattle.linked_classes.specs.Sets.{set_class}
use Rattle.linked_classes.proofs.Slots.{halves, next_in, later_in, nearest_known, no_class, within_all}
use Rattle.linked_classes.proofs.classed.ClassedVec.next.Goals as goal

pub returns-clause-member : goal.returns-clause-member
returns-clause-member g c class h =
    let ns = c.self.inside.listed.numbers in
    let f = class_of c.self.inside.slots in
    let set = c.args.set in
    let there : IsNumber ns c.args.number = rw (← c.self.view_is) at c.requires.number in
    let is : cell_at (map (set_class f set) ns) (place_in ns c.args.number) ≡ Some class = rw (← c.self.view_is) at h in
    let told = subst (λ s. (d : ℕ) → f s ≡ Some d → IsNext f d s c.next.result) c.slot_of.ensures c.next.ensures.member in
    rw (← c.self.view_is)
    (subst (λ r. IsNext (cell_at (map (set_class f set) ns)) class (place_in ns c.args.number) (option_map (place_in ns) r)) (sym c.number_of.ensures)
    (next_in ns f c.self.invariant.stand c.self.invariant.rising set c.requires.set c.args.number there c.next.result told class is))

pub returns-clause-none : goal.returns-clause-none
returns-clause-none g c h =
    let ns = c.self.inside.listed.numbers in
    let f = class_of c.self.inside.slots in
    let set = c.args.set in
    let there : IsNumber ns c.args.number = rw (← c.self.view_is) at c.requires.number in
    let is : cell_at (map (set_class f set) ns) (place_in ns c.args.number) ≡ None = rw (← c.self.view_is) at h in
    let no = no_class ns f c.self.invariant.stand c.self.invariant.rising set c.requires.set c.args.number there is in
    c.number_of.ensures ∙ ap halves (c.next.ensures.none (ap f c.slot_of.ensures ∙ no))

pub returns-clause-there : goal.returns-clause-there
returns-clause-there g c =
    let ns = c.self.inside.listed.numbers in
    let f = class_of c.self.inside.slots in
    rw (← c.self.view_is)
    (subst (λ r. IfSome r (IsNumber ns)) (sym c.number_of.ensures)
    (nearest_known ns f c.self.invariant.stand c.self.invariant.rising Rises c.slot_of.result c.next.result c.next.ensures.member c.next.ensures.none))

pub returns-clause-later : goal.returns-clause-later
returns-clause-later g c =
    let ns = c.self.inside.listed.numbers in
    let f = class_of c.self.inside.slots in
    let set = c.args.set in
    let there : IsNumber ns c.args.number = rw (← c.self.view_is) at c.requires.number in
    let told = subst (λ s. (d : ℕ) → f s ≡ Some d → IsNext f d s c.next.result) c.slot_of.ensures c.next.ensures.member in
    let none = subst (λ s. f s ≡ None → c.next.result ≡ None) c.slot_of.ensures c.next.ensures.none in
    rw (← c.self.view_is)
    (subst (λ r. IfSome r (λ m. place_in ns c.args.number < place_in ns m)) (sym c.number_of.ensures)
    (later_in ns f c.self.invariant.stand c.self.invariant.rising set c.requires.set c.args.number there c.next.result told none))

pub returns-clause-within : goal.returns-clause-within
returns-clause-within g c =
    let ns = c.self.inside.listed.numbers in
    let f = class_of c.self.inside.slots in
    let known =
    subst (λ r. IfSome r (IsNumber ns)) (sym c.number_of.ensures)
    (nearest_known ns f c.self.invariant.stand c.self.invariant.rising Rises c.slot_of.result c.next.result c.next.ensures.member c.next.ensures.none) in
    rw (← c.self.view_is) (within_all ns (length c.self.inside.listed.items) c.self.invariant.many c.number_of.result known)
