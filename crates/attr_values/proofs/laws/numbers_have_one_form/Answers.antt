use Rattle.attr_values.proofs.LawLemmas.{one_form_a_number, one_number_a_spelling}
use Rattle.attr_values.proofs.laws.numbers_have_one_form.Goals as goal

pub returns-clause-form : goal.returns-clause-form
returns-clause-form c = one_form_a_number

pub returns-clause-spelling : goal.returns-clause-spelling
returns-clause-spelling c = one_number_a_spelling
