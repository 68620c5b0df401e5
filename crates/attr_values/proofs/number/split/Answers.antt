use Rattle.attr_values.proofs.NumberLemmas.{ten_above_zero}
use Rattle.attr_values.proofs.number.split.Goals as goal

pub nonzero_div-result : goal.nonzero_div-result
nonzero_div-result c = rw c.in-Some.ensures.1 (ten_above_zero c.from.result)

pub nonzero_rem-result : goal.nonzero_rem-result
nonzero_rem-result c = rw c.in-Some.ensures.1 (ten_above_zero c.from.result)
