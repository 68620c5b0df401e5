use Rattle.std.proofs.Common.{sym, subst}
use Rattle.rollback_book.specs.Book.{BookView, IsMaximalPlace, book_view}
use Rattle.rollback_book.proofs.TakenBack.{tied_undone, undone_takes}
use Rattle.std.specs.Prelude.{vec_capacity}
use Rattle.rollback_book.proofs.book.Book.take_back.Goals as goal

pub invariant_of-self : goal.invariant_of-self
invariant_of-self c =
    let b = book_view c.self.inside.begin c.self.inside.machines c.self.inside.history c.self.inside.entries c.self.inside.settled c.self.inside.held in
    let free = subst (λ (b : BookView). IsMaximalPlace b c.args.step c.args.at) (sym c.self.view_is) c.requires in
    rw c.push_with_room.ensures.items (tied_undone b c.self.invariant c.args.step c.undo.new.self c.take_out.new.held (vec_capacity c.push_with_room.new.list) c.push_with_room.ensures.kept c.args.at free c.take_out.ensures c.undo.ensures)

pub take_out-requires : goal.take_out-requires
take_out-requires c =
    let b = book_view c.self.inside.begin c.self.inside.machines c.self.inside.history c.self.inside.entries c.self.inside.settled c.self.inside.held in
    let free = subst (λ (b : BookView). IsMaximalPlace b c.args.step c.args.at) (sym c.self.view_is) c.requires in
    undone_takes b c.self.invariant c.args.step c.args.at free
