use Rattle.std.proofs.Common.{ap, sym, subst}
use Rattle.step_names.specs.declared.step.StepName.{StepName}
use Rattle.rollback_book.specs.Book.{BookView, IsStepAt, book_view}
use Rattle.book_log.specs.declared.entry.Entry.TheVariants.{Rollback}
use Rattle.rollback_book.specs.Making.{ArePlacesOf}
use Rattle.rollback_book.specs.declared.making.Made.{Made}
use Rattle.rollback_book.specs.declared.making.MadeChange.TheVariants as made
use Rattle.rollback_book.proofs.Planning.{made_rollback, places_within}
use Rattle.rollback_book.proofs.book.Book.make_rollback.Goals as goal

pub names_at-requires : goal.names_at-requires
names_at-requires c =
    let b = book_view c.self.inside.begin c.self.inside.machines c.self.inside.history c.self.inside.entries c.self.inside.settled c.self.inside.held in
    let is_at = subst (λ (b : BookView). IsStepAt b c.args.step.now c.args.at) (sym c.self.view_is) c.requires in
    rw (c.places-2.ensures, c.records.ensures) (places_within b c.self.invariant c.args.step.now c.args.at is_at c.in_ok-places.places c.in_ok-places.ensures)

pub returns : goal.returns
returns c =
    let b = book_view c.self.inside.begin c.self.inside.machines c.self.inside.history c.self.inside.entries c.self.inside.settled c.self.inside.held in
    let is_at = subst (λ (b : BookView). IsStepAt b c.args.step.now c.args.at) (sym c.self.view_is) c.requires in
    let names = rw (c.places-2.ensures, c.records.ensures) at c.in_ok-undone.ensures in
    let are = made_rollback b c.self.invariant c.args.step.now c.args.at is_at c.in_ok-places.places c.in_ok-undone.undone c.in_ok-places.ensures names in
    let same = ap (λ (n : StepName). let m : Made = record { entry = Rollback n c.in_ok-undone.undone; change = made.Rollback c.in_ok-places.places } in m) c.in_ok-step.ensures in
    (c.in_ok-undone.undone, c.in_ok-places.places, same, subst (λ (b : BookView). ArePlacesOf b.log c.args.step.now c.in_ok-undone.undone c.in_ok-places.places) c.self.view_is are)
