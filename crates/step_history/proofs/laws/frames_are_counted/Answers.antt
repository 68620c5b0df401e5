use Rattle.step_history.proofs.Counts.{counted}
use Rattle.step_history.proofs.laws.frames_are_counted.Goals as goal

pub returns : goal.returns
returns c = λ s base ts h t f n low is there. let k = counted s base ts h n low is t f there in (k.bound, k.parked)
