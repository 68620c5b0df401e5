use Rattle.asl_frames.specs.Same.{frame_exact}
use Rattle.asl_frames.proofs.laws.equality_is_of_frames.Goals as goal

pub returns : goal.returns
returns c = frame_exact
