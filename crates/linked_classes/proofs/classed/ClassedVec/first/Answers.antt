use Rattle.std.proofs.Common.{length, map, sym, subst}
use Rattle.std.specs.Prelude.{option_map, IfSome}
use Rattle.linked_classes.specs.Cells.{cell_at}
use Rattle.linked_classes.specs.Classes.{class_of}
use Rattle.linked_classes.specs.Linked.{IsFirst}
use Rattle.linked_classes.specs.Places.{IsNumber, place_in}
use Rattle.linked_classes.specs.Sets.{set_class}
use Rattle.linked_classes.proofs.Slots.{first_in, foremost_known, within_all}
use Rattle.linked_classes.specs.Linked.{Rises}
use Rattle.linked_classes.proofs.classed.ClassedVec.first.Goals as goal

pub returns-clause-first : goal.returns-clause-first
returns-clause-first g c =
    let ns = c.self.inside.listed.numbers in
    let f = class_of c.self.inside.slots in
    let told = subst (λ d. IsFirst f d c.first.result) c.slot_of.ensures c.first.ensures in
    rw (← c.self.view_is)
    (subst (λ r. IsFirst (cell_at (map (set_class f c.args.set) ns)) c.args.class (option_map (place_in ns) r)) (sym c.number_of.ensures)
    (first_in ns f c.self.invariant.stand c.self.invariant.rising c.args.set c.requires.set c.args.class c.first.result told))

pub returns-clause-there : goal.returns-clause-there
returns-clause-there g c =
    let ns = c.self.inside.listed.numbers in
    let f = class_of c.self.inside.slots in
    rw (← c.self.view_is)
    (subst (λ r. IfSome r (IsNumber ns)) (sym c.number_of.ensures)
    (foremost_known ns f c.self.invariant.stand c.self.invariant.rising Rises c.slot_of.result c.first.result c.first.ensures))

pub returns-clause-within : goal.returns-clause-within
returns-clause-within g c =
    let ns = c.self.inside.listed.numbers in
    let f = class_of c.self.inside.slots in
    let known =
    subst (λ r. IfSome r (IsNumber ns)) (sym c.number_of.ensures)
    (foremost_known ns f c.self.invariant.stand c.self.invariant.rising Rises c.slot_of.result c.first.result c.first.ensures) in
    rw (← c.self.view_is) (within_all ns (length c.self.inside.listed.items) c.self.invariant.many c.number_of.result known)
