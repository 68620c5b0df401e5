use Rattle.std.proofs.Common.{◌∙◌, arith, refl, sym}
use Rattle.std.specs.Prelude.{vec_capacity}
use Rattle.rollback_book.specs.Book.{book_view}
use Rattle.rollback_book.proofs.Added.{tied_room, same_many, on_ok, on_any}
use Rattle.rollback_book.proofs.book.Book.make_step.Goals as goal

pub invariant_of-self-2 : goal.invariant_of-self-2
invariant_of-self-2 c =
    let b = book_view c.self.inside.begin c.self.inside.machines c.self.inside.history c.self.inside.entries c.self.inside.settled c.self.inside.held in
    rw c.reserve_entries.ensures.items
    (tied_room b c.make.new.self c.self.inside.machines.entries (vec_capacity c.reserve_entries.new.entries) c.reserve_held.new.held c.self.invariant c.reserve_held.ensures.kept c.make.ensures.world c.make.ensures.history (λ name. refl) c.reserve_entries.ensures.kept)

pub returns-clause-room : goal.returns-clause-room
returns-clause-room c =
    let b = book_view c.self.inside.begin c.self.inside.machines c.self.inside.history c.self.inside.entries c.self.inside.settled c.self.inside.held in
    let room = on_ok c.reserve_entries.result _ (sym c.is_err.ensures.value ∙ c.if-is_err.false) c.reserve_entries.ensures.room in
    let same = same_many b c.make.new.self c.self.invariant c.make.ensures.history in
    on_any c.make.result _ (omega (arith, room, same, c.len.ensures))
