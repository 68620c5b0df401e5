use Rattle.std.proofs.Common.{◌≡◌, ◌+◌, ◌*◌, arith, Some, ap, sym, ◌∙◌}
use Rattle.linked_classes.specs.Classes.{class_of}
use Rattle.linked_classes.specs.Linked.{updated}
use Rattle.linked_classes.specs.Sets.{in_slot}
use Rattle.linked_classes.proofs.classed.put.Goals as goal

pub returns-clause-classes : goal.returns-clause-classes
returns-clause-classes c s =
    let old = class_of c.args.slots.now in
    let slot = 6 * c.args.number + c.args.set in
    let class = c.in-Some.class in
    let same : class * 6 + c.args.set ≡ 6 * class + c.args.set = omega arith in
    ap (λ h. h s) c.push.ensures.classes
    ∙ ap (λ i. updated i old (Some (class * 6 + c.args.set)) s) c.slot_of.ensures
    ∙ ap (λ o. updated slot old o s) (ap Some same ∙ ap (in_slot c.args.set) (sym c.in-Some.is))
