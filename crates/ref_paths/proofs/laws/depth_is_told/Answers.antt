use Rattle.ref_paths.proofs.PlacedDepth.{told}
use Rattle.ref_paths.proofs.laws.depth_is_told.Goals as goal

pub returns : goal.returns
returns c = told
