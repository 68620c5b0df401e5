use Rattle.std.proofs.Common.{◌≡◌, None, Some, arith, ap, sym, ◌∙◌}
use Rattle.std.specs.Prelude.{slice_set}
use Rattle.linked_classes.specs.Cells.{Cells, cell_at}
use Rattle.linked_classes.specs.Classes.{class_of}
use Rattle.linked_classes.specs.Linked.{Rises, Falls, updated}
use Rattle.linked_classes.specs.Members.{class_in, member_classes}
use Rattle.linked_classes.specs.declared.member.Member.{Member}
use Rattle.linked_classes.proofs.Updates.{rising, falling}
use Rattle.linked_classes.proofs.Members.{classes_are, stands, told, known, classes_unset, other_cell, neighbour_stands, left}
use Rattle.linked_classes.proofs.classes.LinkedClasses.remove.Goals as goal

pub link_next-requires : goal.link_next-requires
link_next-requires c =
    let cells = c.self.inside.members.cells in
    let first = c.self.inside.first.items in
    let last = c.self.inside.last.items in
    let is : cell_at cells c.args.number ≡ Some c.in-Some.member = sym c.take.ensures.value ∙ c.in-Some.is in
    let place = stands (cell_at cells) first last c.self.invariant c.args.number c.in-Some.member is in
    let taken : c.take.new.self.cells ≡ slice_set cells c.args.number None = ap (λ (v : Cells Member). v.cells) c.take.ensures.left in
    neighbour_stands Falls falling (member_classes (cell_at cells)) c.in-Some.member.class c.args.number c.in-Some.member.before place.1.before (cell_at c.take.new.self.cells)
    (λ k apart. ap (λ cells. member_classes (cell_at cells) k) taken ∙ other_cell class_in cells c.args.number None k apart)

pub link_before-requires : goal.link_before-requires
link_before-requires c =
    let cells = c.self.inside.members.cells in
    let first = c.self.inside.first.items in
    let last = c.self.inside.last.items in
    let is : cell_at cells c.args.number ≡ Some c.in-Some.member = sym c.take.ensures.value ∙ c.in-Some.is in
    let place = stands (cell_at cells) first last c.self.invariant c.args.number c.in-Some.member is in
    let taken : c.take.new.self.cells ≡ slice_set cells c.args.number None = ap (λ (v : Cells Member). v.cells) c.take.ensures.left in
    neighbour_stands Rises rising (member_classes (cell_at cells)) c.in-Some.member.class c.args.number c.in-Some.member.next place.1.next (cell_at c.link_next.new.members.cells)
    (λ k apart. ap (λ f. f k) c.link_next.ensures.classes ∙ ap (λ cells. member_classes (cell_at cells) k) taken ∙ other_cell class_in cells c.args.number None k apart)

pub invariant_of-self-2 : goal.invariant_of-self-2
invariant_of-self-2 c = record {
  linked =
      let cells = c.self.inside.members.cells in
      let first = c.self.inside.first.items in
      let last = c.self.inside.last.items in
      let is : cell_at cells c.args.number ≡ Some c.in-Some.member = sym c.take.ensures.value ∙ c.in-Some.is in
      let place = stands (cell_at cells) first last c.self.invariant c.args.number c.in-Some.member is in
      let taken : c.take.new.self.cells ≡ slice_set cells c.args.number None = ap (λ (v : Cells Member). v.cells) c.take.ensures.left in
      rw (c.link_before.ensures.classes, c.link_next.ensures.classes, c.link_before.ensures.nexts, c.link_next.ensures.nexts, c.link_before.ensures.befores, c.link_next.ensures.befores, c.write_end.ensures.ends, c.write_end-2.ensures.ends, c.write_end.ensures.len, taken)
      (left cells first last c.self.invariant c.args.number c.in-Some.member is);
  ends = omega (arith, c.write_end.ensures.len, c.write_end-2.ensures.len, c.self.invariant.ends);
}

pub returns-clause-some : goal.returns-clause-some
returns-clause-some c =
    let cells = c.self.inside.members.cells in
    let first = c.self.inside.first.items in
    let last = c.self.inside.last.items in
    let is : cell_at cells c.args.number ≡ Some c.in-Some.member = sym c.take.ensures.value ∙ c.in-Some.is in
    let place = stands (cell_at cells) first last c.self.invariant c.args.number c.in-Some.member is in
    let taken : c.take.new.self.cells ≡ slice_set cells c.args.number None = ap (λ (v : Cells Member). v.cells) c.take.ensures.left in
    let seen : class_of c.args.self.now ≡ member_classes (cell_at cells) = ap class_of (sym c.self.view_is) ∙ classes_are cells in
    told (cell_at cells) first last c.self.invariant (class_of c.args.self.now) seen c.args.number (Some c.in-Some.member) (sym is)

pub returns-clause-known : goal.returns-clause-known
returns-clause-known c =
    let cells = c.self.inside.members.cells in
    let is : cell_at cells c.args.number ≡ Some c.in-Some.member = sym c.take.ensures.value ∙ c.in-Some.is in
    let seen : class_of c.args.self.now ≡ member_classes (cell_at cells) = ap class_of (sym c.self.view_is) ∙ classes_are cells in
    rw (← c.self.view_is) (known (cell_at cells) c.self.inside.first.items c.self.inside.last.items c.self.invariant (class_of c.args.self.now) seen c.args.number (Some c.in-Some.member) (sym is))

pub returns-clause-classes : goal.returns-clause-classes
returns-clause-classes c =
    let cells = c.self.inside.members.cells in
    let first = c.self.inside.first.items in
    let last = c.self.inside.last.items in
    let is : cell_at cells c.args.number ≡ Some c.in-Some.member = sym c.take.ensures.value ∙ c.in-Some.is in
    let place = stands (cell_at cells) first last c.self.invariant c.args.number c.in-Some.member is in
    let taken : c.take.new.self.cells ≡ slice_set cells c.args.number None = ap (λ (v : Cells Member). v.cells) c.take.ensures.left in
    let seen : class_of c.args.self.now ≡ member_classes (cell_at cells) = ap class_of (sym c.self.view_is) ∙ classes_are cells in
    classes_are c.link_before.new.members.cells ∙ c.link_before.ensures.classes ∙ c.link_next.ensures.classes ∙ ap (λ cells. member_classes (cell_at cells)) taken
    ∙ classes_unset cells c.args.number ∙ ap (λ f. updated c.args.number f None) (sym seen)
