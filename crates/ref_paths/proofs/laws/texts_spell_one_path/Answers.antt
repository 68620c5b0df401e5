use Rattle.ref_paths.proofs.OneSpelling.{texts_spell_one_path}
use Rattle.ref_paths.proofs.laws.texts_spell_one_path.Goals as goal

pub returns : goal.returns
returns c = texts_spell_one_path
