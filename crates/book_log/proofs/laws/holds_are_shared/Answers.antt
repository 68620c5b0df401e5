use Rattle.book_log.proofs.HoldSaid.{nothing_left}
use Rattle.book_log.proofs.Holding as law
use Rattle.book_log.proofs.laws.holds_are_shared.Goals as goal

pub returns : goal.returns
returns c = record { after = law.left_is_after; stands = law.holds_stand; none = nothing_left; shared = law.holds_are_shared }
