use Rattle.attr_values.proofs.NumeralLemmas.{reads_back}
use Rattle.attr_values.proofs.laws.numbers_read_back.Goals as goal

pub returns : goal.returns
returns c = reads_back
