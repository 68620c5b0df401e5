use Rattle.std.proofs.Common.{arith}
use Rattle.attr_values.proofs.NumeralLemmas.{too_large}
use Rattle.attr_values.proofs.number.digits_value.Goals as goal

pub returns-then-value : goal.returns-then-value
returns-then-value c = let h = too_large c.loop-digit.value c.loop-digit.digit-index c.args.digits.now (omega arith) (omega arith) in λ small. omega (arith, c.loop-digit.invariant.1)
