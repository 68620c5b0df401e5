use Rattle.std.proofs.Common.{◌≡◌, ◌+◌, ◌++◌, ◌∷◌, [], Some, arith, length, ap, ◌∙◌, length-set}
use Rattle.linked_classes.specs.Cells.{cell_at}
use Rattle.linked_classes.specs.Linked.{updated}
use Rattle.linked_classes.specs.Listed.{values_at}
use Rattle.linked_classes.proofs.Filled.{filled_more, items_more}
use Rattle.linked_classes.proofs.Written.{cell_beyond, written}
use Rattle.linked_classes.proofs.listed.NumberedVec.push.Goals as goal

pub put-requires-clause-hole : goal.put-requires-clause-hole
put-requires-clause-hole g c =
    let cells = c.self.inside.values.cells in
    let reaches = c.self.invariant.reaches in
    let number = c.push-number.ensures.number in
    ap (λ f. f c.push-number.result) c.extend_to.ensures.cells ∙ cell_beyond cells c.push-number.result (omega (arith, reaches, number))

pub invariant_of-self : goal.invariant_of-self
invariant_of-self g c =
    let ns = c.self.inside.numbers.items in
    let cells = c.self.inside.values.cells in
    let end = c.self.inside.numbers.end in
    let reached = c.extend_to.new.self.cells in
    let number = c.push-number.ensures.number in
    let far = c.extend_to.ensures.end in
    let reaches = c.self.invariant.reaches in
    let is : length reached ≡ end + 1 = grind (arith, far, number, reaches) in
    let put = ap (λ v. cell_at v.cells) c.put.ensures ∙ written reached c.push-number.result (Some c.args.value) (omega (arith, is, number)) ∙ ap (λ n. updated n (cell_at reached) (Some c.args.value)) number ∙ ap (λ f. updated end f (Some c.args.value)) c.extend_to.ensures.cells in
    let long = ap (λ v. length v.cells) c.put.ensures in
    let set = length-set reached c.push-number.result (Some c.args.value) in
    rw (c.push-number.ensures.items, c.push-number.ensures.end, number)
    (filled_more ns end cells c.self.invariant c.put.new.self.cells c.args.value put (omega (arith, long, set, is)))

pub returns-clause-items : goal.returns-clause-items
returns-clause-items g c =
    let ns = c.self.inside.numbers.items in
    let cells = c.self.inside.values.cells in
    let end = c.self.inside.numbers.end in
    let reached = c.extend_to.new.self.cells in
    let number = c.push-number.ensures.number in
    let far = c.extend_to.ensures.end in
    let reaches = c.self.invariant.reaches in
    let is : length reached ≡ end + 1 = grind (arith, far, number, reaches) in
    let put = ap (λ v. cell_at v.cells) c.put.ensures ∙ written reached c.push-number.result (Some c.args.value) (omega (arith, is, number)) ∙ ap (λ n. updated n (cell_at reached) (Some c.args.value)) number ∙ ap (λ f. updated end f (Some c.args.value)) c.extend_to.ensures.cells in
    ap (values_at (cell_at c.put.new.self.cells)) (c.push-number.ensures.items ∙ ap (λ n. ns ++ n ∷ []) number)
    ∙ items_more ns end cells c.self.invariant c.put.new.self.cells c.args.value put
    ∙ ap (λ v. v.items ++ c.args.value ∷ []) c.self.view_is
