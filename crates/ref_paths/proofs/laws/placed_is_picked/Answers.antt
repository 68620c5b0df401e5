use Rattle.ref_paths.proofs.PickedAgain.{placed_is_picked}
use Rattle.ref_paths.proofs.laws.placed_is_picked.Goals as goal

pub returns : goal.returns
returns c = placed_is_picked
