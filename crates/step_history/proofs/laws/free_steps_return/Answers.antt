use Rattle.step_history.proofs.Extended.{free_return}
use Rattle.step_history.proofs.laws.free_steps_return.Goals as goal

pub returns : goal.returns
returns c = free_return
