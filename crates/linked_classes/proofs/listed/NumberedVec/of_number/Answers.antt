use Rattle.std.proofs.Common.{IsSome, ap, sym, subst, ◌∙◌}
use Rattle.std.specs.Option.{option_copied}
use Rattle.linked_classes.specs.Cells.{cell_at}
use Rattle.linked_classes.specs.Places.{IsNumber, place_in}
use Rattle.linked_classes.proofs.Filled.{nothing, value_here}
use Rattle.linked_classes.proofs.listed.NumberedVec.of_number.Goals as goal

pub unreachable-requires : goal.unreachable-requires
unreachable-requires g c =
    let ns = c.self.inside.numbers.items in
    let there : IsNumber ns c.args.number = rw (← c.self.view_is) at c.requires in
    let some = c.self.invariant.filled (place_in ns c.args.number) c.args.number there in
    nothing (subst IsSome (sym c.get.ensures ∙ ap option_copied c.in_default.is) some)

pub returns : goal.returns
returns g c =
    let ns = c.self.inside.numbers.items in
    let there : IsNumber ns c.args.number = rw (← c.self.view_is) at c.requires in
    rw (← c.self.view_is) (value_here (cell_at c.self.inside.values.cells) ns c.self.invariant.filled (place_in ns c.args.number) c.args.number there ∙ sym c.get.ensures ∙ ap option_copied c.in-Some.is)
