use Rattle.std.proofs.Common.{◌<◌, None, arith, length, ap, sym, ◌∙◌, length-set}
use Rattle.linked_classes.specs.Cells.{cell_at}
use Rattle.linked_classes.specs.Listed.{values_at}
use Rattle.linked_classes.proofs.Filled.{filled_less, items_less, value_count, value_here}
use Rattle.linked_classes.proofs.Written.{emptied}
use Rattle.linked_classes.proofs.listed.NumberedVec.remove.Goals as goal

pub remove-number-requires : goal.remove-number-requires
remove-number-requires g c =
    let ns = c.self.inside.numbers.items in
    let f = cell_at c.self.inside.values.cells in
    let within : c.args.at < length (values_at f ns) = rw (← c.self.view_is) at c.requires in
    let same = value_count f ns c.self.invariant.filled in
    omega (arith, within, same)

pub invariant_of-self : goal.invariant_of-self
invariant_of-self g c =
    let ns = c.self.inside.numbers.items in
    let cells = c.self.inside.values.cells in
    let number = c.remove-number.result in
    let gone = ap (λ v. cell_at v.cells) c.take.ensures.left ∙ emptied cells number in
    let long = ap (λ v. length v.cells) c.take.ensures.left in
    let far = length-set cells number None in
    let reaches = c.self.invariant.reaches in
    rw (c.remove-number.ensures.items, c.remove-number.ensures.end)
    (filled_less ns c.self.inside.numbers.end cells c.self.invariant c.take.new.self.cells c.args.at number c.remove-number.ensures.number gone (omega (arith, long, far, reaches)))

pub returns-clause-value : goal.returns-clause-value
returns-clause-value g c =
    rw (← c.self.view_is)
    (value_here (cell_at c.self.inside.values.cells) c.self.inside.numbers.items c.self.invariant.filled c.args.at c.remove-number.result c.remove-number.ensures.number ∙ sym c.take.ensures.value ∙ c.in-Some.is)

pub returns-clause-items : goal.returns-clause-items
returns-clause-items g c =
    let ns = c.self.inside.numbers.items in
    let cells = c.self.inside.values.cells in
    let number = c.remove-number.result in
    let gone = ap (λ v. cell_at v.cells) c.take.ensures.left ∙ emptied cells number in
    rw (← c.self.view_is)
    (ap (values_at (cell_at c.take.new.self.cells)) c.remove-number.ensures.items
    ∙ items_less ns c.self.inside.numbers.end cells c.self.invariant c.take.new.self.cells c.args.at number c.remove-number.ensures.number gone)
