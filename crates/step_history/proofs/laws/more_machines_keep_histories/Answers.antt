use Rattle.step_history.proofs.Extended.{more_machines}
use Rattle.step_history.proofs.laws.more_machines_keep_histories.Goals as goal

pub returns : goal.returns
returns c = more_machines
