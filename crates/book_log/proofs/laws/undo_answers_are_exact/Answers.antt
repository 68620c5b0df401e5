use Rattle.book_log.proofs.Refused as law
use Rattle.book_log.proofs.laws.undo_answers_are_exact.Goals as goal

pub returns : goal.returns
returns c = law.undo_answers_are_exact
