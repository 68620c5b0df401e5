use Rattle.book_log.proofs.Reruns as law
use Rattle.book_log.proofs.laws.reruns_agree.Goals as goal

pub returns : goal.returns
returns c = record { legal = law.reruns_are_legal; exact = law.reruns_are_exact; arranged = law.linearizations_agree_all }
