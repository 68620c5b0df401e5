use Rattle.std.proofs.Common.{◌≡◌, ◌≤◌, ◌+◌, ◌*◌, length}
use Rattle.linked_classes.specs.Classes.{class_of}
use Rattle.linked_classes.specs.Sets.{IsPut}
use Rattle.linked_classes.proofs.classed.put_all.Given as goal

abbrev pub invariant-loop-set : goal.invariant-loop-set
invariant-loop-set l = record {
  put : IsPut (class_of l.fn.slots) (class_of l.slots) l.fn.number l.set l.classes;
  end : length l.slots.classes ≤ 6 * l.fn.number + l.set;
  width : l.slots.width ≡ l.fn.slots.width;
  room : l.slots.room ≡ l.fn.slots.room;
  spare : 6 ≤ l.slots.spare + l.set;
}
