use Rattle.book_log.proofs.Elsewhere as law
use Rattle.book_log.proofs.laws.moves_leave_others.Goals as goal

pub returns : goal.returns
returns c = record { starts = law.starts_leave_others; steps = law.steps_leave_others }
