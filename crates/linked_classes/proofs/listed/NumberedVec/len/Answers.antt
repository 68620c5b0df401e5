use Rattle.std.proofs.Common.{sym, ◌∙◌}
use Rattle.linked_classes.specs.Cells.{cell_at}
use Rattle.linked_classes.proofs.Filled.{value_count}
use Rattle.linked_classes.proofs.listed.NumberedVec.len.Goals as goal

pub returns : goal.returns
returns g c = rw (← c.self.view_is) (c.len.ensures ∙ sym (value_count (cell_at c.self.inside.values.cells) c.self.inside.numbers.items c.self.invariant.filled))
