use Rattle.std.proofs.Common.{◌≡◌, ◌++◌, ◌∷◌, [], arith, true, length, map, ap, subst, ◌∙◌}
use Rattle.std.proofs.lemmas.List.{length-append}
use Rattle.linked_classes.specs.Cells.{cell_at}
use Rattle.linked_classes.specs.Classes.{class_of}
use Rattle.linked_classes.specs.Sets.{IsPut, has_classed_room, set_class, set_of}
use Rattle.linked_classes.proofs.Sets.{pushed, pushed_seen}
use Rattle.linked_classes.proofs.classed.ClassedVec.push.Goals as goal

pub invariant_of-self : goal.invariant_of-self
invariant_of-self g c =
    let v = c.self.inside in
    let f = class_of v.slots in
    let new = c.put_all.new.slots in
    let put = subst (λ n. IsPut f (class_of new) n 6 c.args.classes.now) c.push-number.ensures.number c.put_all.ensures.put in
    let more = ap length c.push-number.ensures.items ∙ length-append v.listed.items (c.args.value ∷ []) in
    let far = c.put_all.ensures.end in
    let e = c.push-number.ensures.number in
    rw (c.push-number.ensures.numbers, c.push-number.ensures.end, c.push-number.ensures.number)
    (pushed v.listed.numbers f (class_of new) v.listed.end (length v.listed.items) (length v.slots.classes) c.self.invariant c.args.classes.now put (length c.push-number.new.self.items) (length new.classes) (omega (arith, more)) (omega (arith, far, e)) (let room : has_classed_room v.listed.has_room v.listed.end v.slots ≡ true = rw (← c.self.view_is) at c.requires.room in grind (arith, room)))

pub returns-clause-sets : goal.returns-clause-sets
returns-clause-sets g c set few =
    let v = c.self.inside in
    let f = class_of v.slots in
    let new = c.put_all.new.slots in
    let put = subst (λ n. IsPut f (class_of new) n 6 c.args.classes.now) c.push-number.ensures.number c.put_all.ensures.put in
    ap (map (set_class (class_of new) set)) (c.push-number.ensures.numbers ∙ ap (λ n. v.listed.numbers ++ n ∷ []) c.push-number.ensures.number)
    ∙ pushed_seen v.listed.numbers f (class_of new) v.listed.end (length v.listed.items) (length v.slots.classes) c.self.invariant c.args.classes.now put set few
    ∙ ap (λ w. set_of w set ++ cell_at c.args.classes.now set ∷ []) c.self.view_is
