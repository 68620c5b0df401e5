use Rattle.std.proofs.Common.{◌≡◌, None, ap, sym, ◌∙◌}
use Rattle.std.proofs.Math.ListN.{get_or-eq_default}
use Rattle.linked_classes.specs.Cells.{cell_at}
use Rattle.linked_classes.specs.Classes.{class_of}
use Rattle.linked_classes.specs.Members.{member_classes}
use Rattle.linked_classes.proofs.Members.{classes_are, end_read, last_told}
use Rattle.linked_classes.proofs.classes.LinkedClasses.last.Goals as goal

pub returns-in-Some : goal.returns-in-Some
returns-in-Some c =
    let cells = c.self.inside.members.cells in
    let seen : class_of c.args.self.now ≡ member_classes (cell_at cells) = ap class_of (sym c.self.view_is) ∙ classes_are cells in
    let ends = c.self.inside.last.items in
    let same : c.deref.result.now ≡ ends = c.deref.ensures.value in
    let read = end_read ends c.args.class c.in-Some.end.now (rw same at c.in-Some.ensures.lookup.3.0) (rw same at c.in-Some.ensures.lookup.1) in
    last_told (cell_at cells) c.self.inside.first.items c.self.inside.last.items c.self.invariant (class_of c.args.self.now) seen c.args.class c.in-Some.end.now read

pub returns-in-None : goal.returns-in-None
returns-in-None c =
    let cells = c.self.inside.members.cells in
    let seen : class_of c.args.self.now ≡ member_classes (cell_at cells) = ap class_of (sym c.self.view_is) ∙ classes_are cells in
    let ends = c.self.inside.last.items in
    let same : c.deref.result.now ≡ ends = c.deref.ensures.value in
    let none : cell_at ends c.args.class ≡ None = get_or-eq_default ends None (rw same at c.in-None.ensures.lookup.3) in
    last_told (cell_at cells) c.self.inside.first.items c.self.inside.last.items c.self.invariant (class_of c.args.self.now) seen c.args.class None none
