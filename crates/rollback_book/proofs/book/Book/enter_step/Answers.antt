use Rattle.std.proofs.Common.{sym, subst}
use Rattle.std.specs.Prelude.{vec_capacity}
use Rattle.book_log.specs.Legal.{IsAccepted}
use Rattle.rollback_book.specs.Book.{BookView, book_view}
use Rattle.rollback_book.specs.Making.{CanEnterChange, HasLogRoom}
use Rattle.rollback_book.specs.declared.making.MadeChange.TheVariants as made
use Rattle.rollback_book.proofs.Added.{tied_stepped}
use Rattle.rollback_book.proofs.book.Book.enter_step.Goals as goal

pub invariant_of-self : goal.invariant_of-self
invariant_of-self c =
    let b = book_view c.self.inside.begin c.self.inside.machines c.self.inside.history c.self.inside.entries c.self.inside.settled c.self.inside.held in
    let appended = subst (λ (b : BookView). IsAccepted b.log c.args.entry) (sym c.self.view_is) c.requires.is_accepted in
    let fits = subst (λ (b : BookView). CanEnterChange b c.args.entry (made.Step c.args.step)) (sym c.self.view_is) c.requires.fits in
    let room = subst HasLogRoom (sym c.self.view_is) c.requires.room in
    rw c.push_with_room.ensures.items
    (tied_stepped b c.self.invariant (vec_capacity c.push_with_room.new.list) room c.push_with_room.ensures.kept c.args.entry c.args.step c.apply.new.self c.add_unheld.new.held appended fits c.add_unheld.ensures c.apply.ensures)
