use Rattle.std.proofs.Common.{arith}
use Rattle.attr_values.proofs.NumeralLemmas.{one_zero_more}
use Rattle.attr_values.proofs.number.without_last_zeros.Goals as goal

pub loop-kept-preserved : goal.loop-kept-preserved
loop-kept-preserved c = one_zero_more _ _ c.loop-kept.invariant.0 c.in-48.len_at_least (omega arith) c.loop-kept.invariant.1
