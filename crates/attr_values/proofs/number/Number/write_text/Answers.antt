use Rattle.std.proofs.Common.{◌∙◌, ap}
use Rattle.std.proofs.lemmas.Result.{IfOk-weaker}
use Rattle.attr_values.specs.Numeral.{read_number}
use Rattle.attr_values.proofs.NumeralLemmas.{reads_back}
use Rattle.attr_values.proofs.number.Number.write_text.Goals as goal

pub returns-clause-reads_back : goal.returns-clause-reads_back
returns-clause-reads_back c = IfOk-weaker c.spell.result _ _ (λ s e. ap read_number e ∙ reads_back c.args.self.now c.spell.ensures.normal) c.spell.ensures.text
