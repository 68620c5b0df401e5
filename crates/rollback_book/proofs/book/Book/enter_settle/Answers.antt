use Rattle.std.proofs.Common.{sym, subst}
use Rattle.std.specs.Prelude.{vec_capacity}
use Rattle.book_log.specs.Legal.{IsAccepted}
use Rattle.rollback_book.specs.Book.{BookView, book_view}
use Rattle.rollback_book.specs.Making.{CanEnterChange, HasLogRoom}
use Rattle.rollback_book.specs.declared.making.MadeChange.TheVariants as made
use Rattle.rollback_book.proofs.Settled.{names_fit, tied_after}
use Rattle.rollback_book.proofs.book.Book.enter_settle.Goals as goal

pub settle-requires : goal.settle-requires
settle-requires c =
    let b = book_view c.self.inside.begin c.self.inside.machines c.self.inside.history c.self.inside.entries c.self.inside.settled c.self.inside.held in
    names_fit b c.args.entry (subst (λ (b : BookView). CanEnterChange b c.args.entry made.Settle) (sym c.self.view_is) c.requires.fits)

pub invariant_of-self : goal.invariant_of-self
invariant_of-self c =
    let b = book_view c.self.inside.begin c.self.inside.machines c.self.inside.history c.self.inside.entries c.self.inside.settled c.self.inside.held in
    let appended = subst (λ (b : BookView). IsAccepted b.log c.args.entry) (sym c.self.view_is) c.requires.is_accepted in
    let fits = subst (λ (b : BookView). CanEnterChange b c.args.entry made.Settle) (sym c.self.view_is) c.requires.fits in
    let room = subst HasLogRoom (sym c.self.view_is) c.requires.room in
    rw c.push_with_room.ensures.items
    (tied_after b c.self.invariant c.args.entry c.settle.new.self c.settle.new.names (vec_capacity c.push_with_room.new.list) appended fits room c.push_with_room.ensures.kept c.settle.ensures.records c.settle.ensures.history c.settle.ensures.names)
