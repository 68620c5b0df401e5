use Rattle.book_rounds.proofs.Receipts.{round_closed}
use Rattle.book_rounds.proofs.rounds.finish.Goals as goal

pub returns-in-Ok-clause-ok : goal.returns-in-Ok-clause-ok
returns-in-Ok-clause-ok g c moves passes fresh go =
    let closed = c.in-Ok.ensures.closed in round_closed moves g.L.Sharing.begun (g.B.Events.log c.in-Ok.book) passes c.args.outcome.passes.items fresh go closed.0 closed.1
