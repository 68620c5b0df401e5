use Rattle.json_tree.specs.View.{data_of}
use Rattle.attr_values.proofs.ProperLemmas.{kept_from_answers}
use Rattle.attr_values.proofs.reading.read_value.Goals as goal

pub returns-clause-kept : goal.returns-clause-kept
returns-clause-kept c = kept_from_answers (data_of c.args.json.now) c.read_within.result c.read_within.ensures.read
