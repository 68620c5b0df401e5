use Rattle.std.proofs.Common.{◌∙◌, sym}
use Rattle.attr_values.proofs.NumberLemmas.{decimal_cmp-value_cmp}
use Rattle.attr_values.proofs.number.NumberOrd.cmp.Goals as goal

pub returns : goal.returns
returns c = c.compare_values.ensures.order ∙ sym (decimal_cmp-value_cmp c.args.self.now c.args.other.now c.compare_values.ensures.normal.0 c.compare_values.ensures.normal.1)
