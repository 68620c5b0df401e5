use Rattle.ref_paths.proofs.Unmarked.{unmarked_stays}
use Rattle.ref_paths.proofs.laws.unmarked_stays.Goals as goal

pub returns : goal.returns
returns c = unmarked_stays
