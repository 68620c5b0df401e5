use Rattle.ref_paths.proofs.PickedAgain.{elsewhere_stays}
use Rattle.ref_paths.proofs.laws.elsewhere_stays.Goals as goal

pub returns : goal.returns
returns c = elsewhere_stays
