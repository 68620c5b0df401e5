use Rattle.saved_steps.proofs.Left.{effects_leave, left_to_undo}
use Rattle.saved_steps.proofs.laws.steps_leave_threads.Goals as goal

pub returns : goal.returns
returns c = record { effects = effects_leave; records = left_to_undo }
