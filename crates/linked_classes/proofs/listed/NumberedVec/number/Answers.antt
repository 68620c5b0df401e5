use Rattle.std.proofs.Common.{◌<◌, arith, length}
use Rattle.linked_classes.specs.Cells.{cell_at}
use Rattle.linked_classes.specs.Listed.{values_at}
use Rattle.linked_classes.proofs.Filled.{value_count}
use Rattle.linked_classes.proofs.Placed.{placed}
use Rattle.linked_classes.proofs.listed.NumberedVec.number.Goals as goal

pub get-requires : goal.get-requires
get-requires g c =
    let ns = c.self.inside.numbers.items in
    let f = cell_at c.self.inside.values.cells in
    let within : c.args.at < length (values_at f ns) = rw (← c.self.view_is) at c.requires in
    let same = value_count f ns c.self.invariant.filled in
    omega (arith, within, same)

pub returns-clause-number : goal.returns-clause-number
returns-clause-number g c = rw (← c.self.view_is) c.get.ensures

pub returns-clause-place : goal.returns-clause-place
returns-clause-place g c = rw (← c.self.view_is) (placed c.self.inside.numbers.items c.self.invariant.rising c.args.at c.get.result c.get.ensures)
