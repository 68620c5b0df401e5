use Rattle.std.proofs.Common.{subst, sym}
use Rattle.shared_book.specs.Closed.{IsSettled}
use Rattle.shared_book.specs.Views.{DeskView}
use Rattle.shared_book.proofs.Counts.{closed}
use Rattle.shared_book.proofs.desk.Desk.finish.Goals as goal

pub returns-clause-closed : goal.returns-clause-closed
returns-clause-closed g c =
    let settled = subst (λ (d : DeskView). IsSettled d.log.entries d.first c.args.passes.items) (sym c.self.view_is) c.requires in
    closed g.L.Sharing.begun (g.B.Events.log c.self.inside.book) c.self.inside.first c.self.inside.side.calls.total c.args.passes.items settled c.self.invariant.0 c.gather.ensures
