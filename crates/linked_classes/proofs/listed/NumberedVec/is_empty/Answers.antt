use Rattle.std.proofs.Common.{◌==◌, ap, sym, ◌∙◌}
use Rattle.linked_classes.specs.Cells.{cell_at}
use Rattle.linked_classes.proofs.Filled.{value_count}
use Rattle.linked_classes.proofs.listed.NumberedVec.is_empty.Goals as goal

pub returns : goal.returns
returns g c = rw (← c.self.view_is) (c.is_empty.ensures ∙ ap (λ n. n == 0) (sym (value_count (cell_at c.self.inside.values.cells) c.self.inside.numbers.items c.self.invariant.filled)))
