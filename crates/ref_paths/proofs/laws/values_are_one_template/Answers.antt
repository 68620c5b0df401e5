use Rattle.ref_paths.proofs.OneTemplate.{values_are_one_template}
use Rattle.ref_paths.proofs.laws.values_are_one_template.Goals as goal

pub returns : goal.returns
returns c = values_are_one_template
