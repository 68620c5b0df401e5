use Rattle.ref_paths.proofs.FieldsFilled.{fields_are_filled}
use Rattle.ref_paths.proofs.laws.fields_are_filled.Goals as goal

pub returns : goal.returns
returns c = fields_are_filled
