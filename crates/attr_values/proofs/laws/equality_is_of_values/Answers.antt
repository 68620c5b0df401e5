use Rattle.attr_values.proofs.LawLemmas.{equality_of_values}
use Rattle.attr_values.proofs.laws.equality_is_of_values.Goals as goal

pub returns : goal.returns
returns c = equality_of_values
