use Rattle.saved_steps.proofs.Moves.{start_is_effect, work_is_effect, join_is_effect, terminate_is_effect}
use Rattle.saved_steps.proofs.laws.nexts_are_moves.Goals as goal

pub returns : goal.returns
returns c = record { start = start_is_effect; work = work_is_effect; join = join_is_effect; terminate = terminate_is_effect }
