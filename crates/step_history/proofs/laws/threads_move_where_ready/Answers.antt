use Rattle.step_history.proofs.Movable.{threads_move}
use Rattle.step_history.proofs.laws.threads_move_where_ready.Goals as goal

pub returns : goal.returns
returns c = threads_move
