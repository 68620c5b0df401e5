use Rattle.std.proofs.Common.{◌<◌, IsSome, arith, length, ap, sym, subst, ◌∙◌}
use Rattle.std.specs.Option.{option_copied}
use Rattle.linked_classes.specs.Cells.{cell_at}
use Rattle.linked_classes.specs.Listed.{values_at}
use Rattle.linked_classes.proofs.Filled.{nothing, value_count, value_here}
use Rattle.linked_classes.proofs.listed.NumberedVec.get.Goals as goal

pub get-requires : goal.get-requires
get-requires g c =
    let ns = c.self.inside.numbers.items in
    let f = cell_at c.self.inside.values.cells in
    let within : c.args.at < length (values_at f ns) = rw (← c.self.view_is) at c.requires in
    let same = value_count f ns c.self.invariant.filled in
    omega (arith, within, same)

pub unreachable-requires : goal.unreachable-requires
unreachable-requires g c =
    let some = c.self.invariant.filled c.args.at c.get.result c.get.ensures in
    nothing (subst IsSome (sym c.get-2.ensures ∙ ap option_copied c.in_default.is) some)

pub returns : goal.returns
returns g c =
    rw (← c.self.view_is) (value_here (cell_at c.self.inside.values.cells) c.self.inside.numbers.items c.self.invariant.filled c.args.at c.get.result c.get.ensures ∙ sym c.get-2.ensures ∙ ap option_copied c.in-Some.is)
