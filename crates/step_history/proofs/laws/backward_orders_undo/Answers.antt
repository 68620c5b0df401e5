use Rattle.step_history.proofs.Extended.{orders_undo}
use Rattle.step_history.proofs.laws.backward_orders_undo.Goals as goal

pub returns : goal.returns
returns c = orders_undo
