use Rattle.attr_values.proofs.LawLemmas.{one_key_a_value}
use Rattle.attr_values.proofs.laws.keys_have_one_form.Goals as goal

pub returns : goal.returns
returns c = one_key_a_value
