use Rattle.attr_values.proofs.LawLemmas.{item_reads_back}
use Rattle.attr_values.proofs.ProperLemmas.{datum_reads_back}
use Rattle.attr_values.proofs.laws.written_is_read_back.Goals as goal

pub returns-clause-value : goal.returns-clause-value
returns-clause-value c = datum_reads_back

pub returns-clause-item : goal.returns-clause-item
returns-clause-item c = item_reads_back
