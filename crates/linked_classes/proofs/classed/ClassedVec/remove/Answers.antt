use Rattle.std.proofs.Common.{◌<◌, arith, length, map, ap, ◌∙◌}
use Rattle.std.specs.List.{remove}
use Rattle.std.proofs.lemmas.List.Edits.{length-remove}
use Rattle.linked_classes.specs.Classes.{class_of}
use Rattle.linked_classes.specs.Sets.{set_class, set_of}
use Rattle.linked_classes.proofs.Sets.{taken, taken_seen}
use Rattle.linked_classes.proofs.classed.ClassedVec.remove.Goals as goal

pub invariant_of-self : goal.invariant_of-self
invariant_of-self g c =
    let v = c.self.inside in
    let f = class_of v.slots in
    let new = c.take_all.new.slots in
    let within : c.args.at < length v.listed.items = rw (← c.self.view_is) at c.requires in
    let less = ap length c.remove.ensures.items in
    let one = length-remove v.listed.items c.args.at within in
    let far = c.take_all.ensures.end in
    rw (c.remove.ensures.numbers, c.remove.ensures.end)
    (taken v.listed.numbers f (class_of new) v.listed.end (length v.listed.items) (length v.slots.classes) c.self.invariant c.args.at c.number-number.result c.number-number.ensures.number c.take_all.ensures.taken (length c.remove.new.self.items) (length new.classes) (omega (arith, less, one)) (omega (arith, far)))

pub returns-clause-sets : goal.returns-clause-sets
returns-clause-sets g c set few =
    let v = c.self.inside in
    let f = class_of v.slots in
    let new = c.take_all.new.slots in
    ap (map (set_class (class_of new) set)) c.remove.ensures.numbers
    ∙ taken_seen v.listed.numbers f (class_of new) v.listed.end (length v.listed.items) (length v.slots.classes) c.self.invariant c.args.at c.number-number.result c.number-number.ensures.number c.take_all.ensures.taken set few
    ∙ ap (λ w. remove (set_of w set) c.args.at) c.self.view_is
