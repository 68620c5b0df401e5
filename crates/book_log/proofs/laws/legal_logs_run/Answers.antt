use Rattle.book_log.proofs.Counts.{legal_logs_have_room}
use Rattle.book_log.proofs.LegalRuns as law
use Rattle.book_log.proofs.laws.legal_logs_run.Goals as goal

pub returns : goal.returns
returns c = record { runs = law.legal_logs_run; goes_on = law.accepted_is_legal; room = legal_logs_have_room }
