use Rattle.std.proofs.Common.{arith, refl, ◌∙◌}
use Rattle.linked_classes.specs.Classes.{class_of}
use Rattle.linked_classes.proofs.Sets.{put_none, put_more}
use Rattle.linked_classes.proofs.classed.put_all.Goals as goal

pub loop-set-init : goal.loop-set-init
loop-set-init c = record {
  put = put_none (class_of c.args.slots.now) c.args.number c.args.classes.now;
  end = let a = c.requires.after in omega (arith, a);
  width = refl;
  room = refl;
  spare = let a = c.requires.spare in omega (arith, a);
}

pub loop-set-preserved : goal.loop-set-preserved
loop-set-preserved c =
    let i = c.loop-set.invariant in
    let e = c.put.ensures in
    let end = e.end in
    let spare = e.spare in
    let was = i.spare in
    record {
      put = put_more (class_of c.args.slots.now) (class_of c.loop-set.slots) (class_of c.put.new.slots) c.args.number c.loop-set.set c.args.classes.now i.put e.classes;
      end = omega (arith, end);
      width = e.width ∙ i.width;
      room = e.room ∙ i.room;
      spare = omega (arith, spare, was);
    }
