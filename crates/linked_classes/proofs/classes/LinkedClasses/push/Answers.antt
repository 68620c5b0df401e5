use Rattle.std.proofs.Common.{◌≡◌, ◌≤◌, ◌<◌, Some, length, arith, ap, sym, ◌∙◌}
use Rattle.std.proofs.lemmas.List.{length-map}
use Rattle.linked_classes.specs.Cells.{cell_at}
use Rattle.linked_classes.specs.Classes.{class_of}
use Rattle.linked_classes.specs.Linked.{updated}
use Rattle.linked_classes.specs.Members.{class_in, member_classes}
use Rattle.linked_classes.proofs.Members.{classes_are, end_read, fits_last, none_beyond}
use Rattle.linked_classes.proofs.classes.LinkedClasses.push.Goals as goal

pub restore-requires-clause-absent : goal.restore-requires-clause-absent
restore-requires-clause-absent c =
    let cells = c.self.inside.members.cells in
    let beyond : length cells ≤ c.args.number = omega (arith, rw (← c.self.view_is) at c.requires.after, length-map cells class_in) in
    ap (λ f. f c.args.number) (classes_are c.extend_to.new.self.cells ∙ ap member_classes c.extend_to.ensures.cells) ∙ none_beyond cells c.args.number beyond

pub restore-requires-clause-fits : goal.restore-requires-clause-fits
restore-requires-clause-fits c =
    let cells = c.self.inside.members.cells in
    let beyond : length cells ≤ c.args.number = omega (arith, rw (← c.self.view_is) at c.requires.after, length-map cells class_in) in
    let known : c.args.class < length c.self.inside.first.items = rw (← c.self.view_is) at c.requires.class in
    let last = end_read c.self.inside.last.items c.args.class c.index-before.result.now (omega (arith, known, c.self.invariant.ends)) c.index-before.ensures in
    fits_last cells c.self.inside.first.items c.self.inside.last.items c.self.invariant _ (classes_are c.extend_to.new.self.cells ∙ ap member_classes c.extend_to.ensures.cells) c.args.number c.args.class c.index-before.result.now beyond last

pub returns-clause-classes : goal.returns-clause-classes
returns-clause-classes c =
    let cells = c.self.inside.members.cells in
    let seen : class_of c.args.self.now ≡ member_classes (cell_at cells) = ap class_of (sym c.self.view_is) ∙ classes_are cells in
    c.restore.ensures.classes ∙ ap (λ f. updated c.args.number f (Some c.args.class)) (classes_are c.extend_to.new.self.cells ∙ ap member_classes c.extend_to.ensures.cells ∙ sym seen)
