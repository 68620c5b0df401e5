use Rattle.attr_values.proofs.LawLemmas.{reads_the_number}
use Rattle.attr_values.proofs.laws.numbers_are_read.Goals as goal

pub returns : goal.returns
returns c = reads_the_number
