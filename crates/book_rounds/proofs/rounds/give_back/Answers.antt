use Rattle.book_rounds.proofs.Receipts.{same_closed}
use Rattle.book_rounds.proofs.rounds.give_back.Goals as goal

pub returns-in-Ok : goal.returns-in-Ok
returns-in-Ok g c = let closed = c.in-Ok.ensures.closed in same_closed g.L.Sharing.begun (g.B.Events.log c.in-Ok.book) c.args.passes.items c.requires closed.1
