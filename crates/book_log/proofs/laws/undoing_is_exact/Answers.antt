use Rattle.book_log.proofs.TakenBack as law
use Rattle.book_log.proofs.laws.undoing_is_exact.Goals as goal

pub returns : goal.returns
returns c = record { step = law.undo_takes_back; start = law.undo_takes_back_start; again = law.again_gives_back }
