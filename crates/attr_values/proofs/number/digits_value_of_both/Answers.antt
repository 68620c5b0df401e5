use Rattle.attr_values.proofs.NumeralLemmas.{both_large, digits_value_after-append}
use Rattle.attr_values.proofs.number.digits_value_of_both.Goals as goal

pub returns-in_err-digits_value : goal.returns-in_err-digits_value
returns-in_err-digits_value c = rw c.from_residual.ensures (both_large c.args.whole.now c.args.fraction.now c.in_err-digits_value.ensures)

pub returns : goal.returns
returns c = rw (digits_value_after-append 0 c.args.whole.now c.args.fraction.now, ← c.in_ok-digits_value.ensures.1) c.digits_value-2.ensures
