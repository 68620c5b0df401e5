use Rattle.step_history.proofs.Movable.{frames_stand}
use Rattle.step_history.proofs.laws.frames_stand.Goals as goal

pub returns : goal.returns
returns c = frames_stand
