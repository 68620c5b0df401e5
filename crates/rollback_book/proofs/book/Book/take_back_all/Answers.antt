use Rattle.std.proofs.Common.{sym, subst}
use Rattle.std.specs.Prelude.{ℕ, List, vec_capacity}
use Rattle.rollback_book.specs.Book.{BookView, book_view}
use Rattle.rollback_book.specs.Holding.{CanTakeOut, TakesOut}
use Rattle.rollback_book.specs.Making.{ArePlacesOf}
use Rattle.rollback_book.proofs.Planning.{planned_step, plan_of}
use Rattle.rollback_book.proofs.TakenBack.{planned_takes, tied_rolled}
use Rattle.rollback_book.proofs.book.Book.take_back_all.Goals as goal

pub rollback-requires-clause-plan : goal.rollback-requires-clause-plan
rollback-requires-clause-plan c =
    let b = book_view c.self.inside.begin c.self.inside.machines c.self.inside.history c.self.inside.entries c.self.inside.settled c.self.inside.held in
    let p = subst (λ (b : BookView). ArePlacesOf b.log c.args.step c.args.undone c.args.plan) (sym c.self.view_is) c.requires in
    plan_of b c.self.invariant c.args.step c.args.undone c.args.plan p

pub invariant_of-self : goal.invariant_of-self
invariant_of-self c =
    let b = book_view c.self.inside.begin c.self.inside.machines c.self.inside.history c.self.inside.entries c.self.inside.settled c.self.inside.held in
    let p = subst (λ (b : BookView). ArePlacesOf b.log c.args.step c.args.undone c.args.plan) (sym c.self.view_is) c.requires in
    rw c.push_with_room.ensures.items
    (tied_rolled b c.self.invariant c.args.step c.rollback.new.self c.take_out.new.held (vec_capacity c.push_with_room.new.list) c.push_with_room.ensures.kept p.at c.args.undone c.args.plan
    (planned_step b c.self.invariant c.args.step c.args.undone c.args.plan p) p.names p.are (subst (λ (l : List ℕ). TakesOut b.held l c.take_out.new.held) c.places.ensures c.take_out.ensures) c.rollback.ensures)

pub take_out-requires : goal.take_out-requires
take_out-requires c =
    let b = book_view c.self.inside.begin c.self.inside.machines c.self.inside.history c.self.inside.entries c.self.inside.settled c.self.inside.held in
    let p = subst (λ (b : BookView). ArePlacesOf b.log c.args.step c.args.undone c.args.plan) (sym c.self.view_is) c.requires in
    subst (λ (l : List ℕ). CanTakeOut b.held l) (sym c.places.ensures) (planned_takes b c.self.invariant c.args.step p.at c.args.plan (planned_step b c.self.invariant c.args.step c.args.undone c.args.plan p) p.are)
