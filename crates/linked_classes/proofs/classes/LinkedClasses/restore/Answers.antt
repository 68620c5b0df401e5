use Rattle.std.proofs.Common.{◌≡◌, ◌<◌, Some, length, arith, ap, sym, subst, ◌∙◌}
use Rattle.std.specs.Prelude.{slice_set}
use Rattle.std.proofs.lemmas.List.{length-map}
use Rattle.std.proofs.lemmas.List.{length-map}
use Rattle.linked_classes.specs.Cells.{Cells, cell_at}
use Rattle.linked_classes.specs.Classes.{class_of}
use Rattle.linked_classes.specs.Linked.{Rises, updated}
use Rattle.linked_classes.specs.Members.{FitsAt, class_in, member_classes}
use Rattle.linked_classes.specs.declared.member.Member.{Member}
use Rattle.linked_classes.proofs.Updates.{rising}
use Rattle.linked_classes.proofs.Members.{classes_are, classes_set, other_cell, neighbour_stands, come}
use Rattle.linked_classes.proofs.classes.LinkedClasses.restore.Goals as goal

pub link_before-requires : goal.link_before-requires
link_before-requires c =
    let cells = c.self.inside.members.cells in
    let first = c.self.inside.first.items in
    let last = c.self.inside.last.items in
    let seen : class_of c.args.self.now ≡ member_classes (cell_at cells) = ap class_of (sym c.self.view_is) ∙ classes_are cells in
    let within : c.args.number < length cells = omega (arith, rw (← c.self.view_is) at c.requires.number, length-map cells class_in) in
    let put : c.put.new.self.cells ≡ slice_set cells c.args.number (Some c.args.member) = ap (λ (v : Cells Member). v.cells) c.put.ensures in
    neighbour_stands Rises rising (class_of c.args.self.now) c.args.member.class c.args.number c.args.member.next c.requires.fits.next (cell_at c.link_next.new.members.cells)
    (λ k apart. ap (λ f. f k) (c.link_next.ensures.classes ∙ ap (λ cells. member_classes (cell_at cells)) put) ∙ other_cell class_in cells c.args.number (Some c.args.member) k apart ∙ sym (ap (λ f. f k) seen))

pub invariant_of-self : goal.invariant_of-self
invariant_of-self c = record {
  linked =
      let cells = c.self.inside.members.cells in
      let first = c.self.inside.first.items in
      let last = c.self.inside.last.items in
      let seen : class_of c.args.self.now ≡ member_classes (cell_at cells) = ap class_of (sym c.self.view_is) ∙ classes_are cells in
      let within : c.args.number < length cells = omega (arith, rw (← c.self.view_is) at c.requires.number, length-map cells class_in) in
      let put : c.put.new.self.cells ≡ slice_set cells c.args.number (Some c.args.member) = ap (λ (v : Cells Member). v.cells) c.put.ensures in
      let absent = sym (ap (λ f. f c.args.number) seen) ∙ c.requires.absent in
      let known : c.args.member.class < length first = rw (← c.self.view_is) at c.requires.class in
      let fits = subst (λ f. FitsAt f c.args.number c.args.member) seen c.requires.fits in
      rw (c.link_before.ensures.classes, c.link_next.ensures.classes, c.link_before.ensures.nexts, c.link_next.ensures.nexts, c.link_before.ensures.befores, c.link_next.ensures.befores, c.write_end.ensures.ends, c.write_end-2.ensures.ends, c.write_end.ensures.len, put)
      (come cells first last c.self.invariant c.args.number c.args.member within absent known fits);
  ends = omega (arith, c.write_end.ensures.len, c.write_end-2.ensures.len, c.self.invariant.ends);
}

pub returns-clause-classes : goal.returns-clause-classes
returns-clause-classes c =
    let cells = c.self.inside.members.cells in
    let first = c.self.inside.first.items in
    let last = c.self.inside.last.items in
    let seen : class_of c.args.self.now ≡ member_classes (cell_at cells) = ap class_of (sym c.self.view_is) ∙ classes_are cells in
    let within : c.args.number < length cells = omega (arith, rw (← c.self.view_is) at c.requires.number, length-map cells class_in) in
    let put : c.put.new.self.cells ≡ slice_set cells c.args.number (Some c.args.member) = ap (λ (v : Cells Member). v.cells) c.put.ensures in
    classes_are c.link_before.new.members.cells ∙ c.link_before.ensures.classes ∙ c.link_next.ensures.classes ∙ ap (λ cells. member_classes (cell_at cells)) put
    ∙ classes_set cells c.args.number (Some c.args.member) within ∙ ap (λ f. updated c.args.number f (Some c.args.member.class)) (sym seen)
