use Rattle.book_log.proofs.Settling as law
use Rattle.book_log.proofs.laws.settling_is_for_good.Goals as goal

pub returns : goal.returns
returns c = record { world = law.settling_keeps_the_world; stays = law.settled_stays_settled }
