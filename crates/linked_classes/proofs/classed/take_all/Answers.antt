use Rattle.std.proofs.Common.{[], None, refl, ap, ◌∙◌}
use Rattle.linked_classes.specs.Classes.{class_of}
use Rattle.linked_classes.specs.Linked.{updated}
use Rattle.linked_classes.proofs.Sets.{put_none, put_more}
use Rattle.linked_classes.proofs.classed.take_all.Goals as goal

pub loop-set-init : goal.loop-set-init
loop-set-init c = record {
  taken = put_none (class_of c.args.slots.now) c.args.number [];
  end = refl;
  width = refl;
  room = refl;
}

pub loop-set-preserved : goal.loop-set-preserved
loop-set-preserved c =
    let i = c.loop-set.invariant in
    let old = class_of c.loop-set.slots in
    record {
      taken = put_more (class_of c.args.slots.now) old (class_of c.remove.new.self) c.args.number c.loop-set.set [] i.taken (λ s. ap (λ h. h s) c.remove.ensures.classes ∙ ap (λ k. updated k old None s) c.slot_of.ensures);
      end = c.remove.ensures.end ∙ i.end;
      width = c.remove.ensures.width ∙ i.width;
      room = c.remove.ensures.room ∙ i.room;
    }
