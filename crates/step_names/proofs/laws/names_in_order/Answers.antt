use Rattle.std.proofs.Common.{refl}
use Rattle.step_names.proofs.OrderLaws.{thread_Decides, step_Decides, thread_exact, step_exact, under_later}
use Rattle.step_names.proofs.laws.names_in_order.Goals as goal

pub returns : goal.returns
returns c = record { threads = λ a b. refl; steps = λ a b. refl; threads_equal = thread_Decides; steps_equal = step_Decides; threads_exact = thread_exact; steps_exact = step_exact; later = under_later }
