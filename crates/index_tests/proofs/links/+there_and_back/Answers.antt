use Rattle.std.proofs.Common.{rules, ◌≡◌, None, slice_index_or, refl, ap, arith, ◌∙◌}
use Rattle.linked_classes.specs.Classes.{class_of}
use Rattle.linked_classes.proofs.Updates.{updated_here}
use Rattle.linked_classes.proofs.Back.{fits_again, back_again, none_again}
use Rattle.index_tests.proofs.links.+there_and_back.Goals as goal

pub returns-in_default-remove-clause-classes : goal.returns-in_default-remove-clause-classes
returns-in_default-remove-clause-classes t c =
    let none : class_of c.args.links.now (slice_index_or c.args.numbers.now 0 0) ≡ None = search rules in
    c.there_and_back.ensures.classes ∙ none_again (class_of c.args.links.now) (class_of c.remove.new.self) _ none c.remove.ensures.classes

pub restore-requires-clause-absent : goal.restore-requires-clause-absent
restore-requires-clause-absent t c =
    ap (λ f. f (slice_index_or c.args.numbers.now 0 0)) (c.there_and_back-inner.ensures.classes ∙ c.remove.ensures.classes) ∙ updated_here (class_of c.args.links.now) _ None _ refl

pub restore-requires-clause-class : goal.restore-requires-clause-class
restore-requires-clause-class t c = omega (arith, c.in-Some.ensures.known, c.there_and_back-inner.ensures.width, c.remove.ensures.width)

pub restore-requires-clause-fits : goal.restore-requires-clause-fits
restore-requires-clause-fits t c =
    fits_again (class_of c.args.links.now) (class_of c.there_and_back-inner.new.links) _ c.in-Some.member (c.there_and_back-inner.ensures.classes ∙ c.remove.ensures.classes) c.in-Some.ensures.some.1

pub returns-then-inner-clause-classes : goal.returns-then-inner-clause-classes
returns-then-inner-clause-classes t c =
    back_again (class_of c.args.links.now) (class_of c.there_and_back-inner.new.links) (class_of c.restore.new.self) _ c.in-Some.member.class c.in-Some.ensures.some.0 (c.there_and_back-inner.ensures.classes ∙ c.remove.ensures.classes) c.restore.ensures.classes

pub returns-else-inner-clause-classes : goal.returns-else-inner-clause-classes
returns-else-inner-clause-classes t c =
    back_again (class_of c.args.links.now) (class_of c.there_and_back-inner.new.links) (class_of c.restore.new.self) _ c.in-Some.member.class c.in-Some.ensures.some.0 (c.there_and_back-inner.ensures.classes ∙ c.remove.ensures.classes) c.restore.ensures.classes
