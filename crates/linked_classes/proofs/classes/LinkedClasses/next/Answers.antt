use Rattle.std.proofs.Common.{◌≡◌, ap, sym, ◌∙◌}
use Rattle.linked_classes.specs.Cells.{cell_at}
use Rattle.linked_classes.specs.Classes.{class_of}
use Rattle.linked_classes.specs.Members.{member_classes}
use Rattle.linked_classes.proofs.Members.{classes_are, next_told}
use Rattle.linked_classes.proofs.classes.LinkedClasses.next.Goals as goal

pub returns-in-Some-clause-member : goal.returns-in-Some-clause-member
returns-in-Some-clause-member c =
    let cells = c.self.inside.members.cells in
    let seen : class_of c.args.self.now ≡ member_classes (cell_at cells) = ap class_of (sym c.self.view_is) ∙ classes_are cells in
    next_told (cell_at cells) c.self.inside.first.items c.self.inside.last.items c.self.invariant (class_of c.args.self.now) seen c.args.number c.in-Some.member.now (sym c.in-Some.ensures)
