use Rattle.std.proofs.Common.{rules, ◌≡◌, ap, sym, ◌∙◌}
use Rattle.linked_classes.specs.Cells.{cell_at}
use Rattle.linked_classes.specs.Classes.{class_of}
use Rattle.linked_classes.specs.Members.{member_classes}
use Rattle.linked_classes.proofs.Members.{classes_are, told, known}
use Rattle.linked_classes.proofs.classes.LinkedClasses.member.Goals as goal

pub returns-clause-some : goal.returns-clause-some
returns-clause-some c =
    let cells = c.self.inside.members.cells in
    let seen : class_of c.args.self.now ≡ member_classes (cell_at cells) = ap class_of (sym c.self.view_is) ∙ classes_are cells in
    told (cell_at cells) c.self.inside.first.items c.self.inside.last.items c.self.invariant (class_of c.args.self.now) seen c.args.number c.copied.result (search rules)

pub returns-clause-known : goal.returns-clause-known
returns-clause-known c =
    let cells = c.self.inside.members.cells in
    let seen : class_of c.args.self.now ≡ member_classes (cell_at cells) = ap class_of (sym c.self.view_is) ∙ classes_are cells in
    rw (← c.self.view_is) (known (cell_at cells) c.self.inside.first.items c.self.inside.last.items c.self.invariant (class_of c.args.self.now) seen c.args.number c.copied.result (search rules))
