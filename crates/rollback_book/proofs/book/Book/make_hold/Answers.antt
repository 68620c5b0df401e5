use Rattle.std.proofs.Common.{refl, sym, subst}
use Rattle.std.specs.Prelude.{vec_capacity}
use Rattle.rollback_book.specs.Book.{BookView, IsStepAt, book_view}
use Rattle.rollback_book.specs.Making.{MakesHold}
use Rattle.rollback_book.proofs.Added.{tied_room}
use Rattle.rollback_book.proofs.HoldAnswers.{made_hold}
use Rattle.rollback_book.proofs.Kept.{hold_itself}
use Rattle.rollback_book.proofs.Planning.{places_within}
use Rattle.rollback_book.proofs.book.Book.make_hold.Goals as goal
use Rattle.step_history.specs.History.{history_records}

pub made_of_plan-requires : goal.made_of_plan-requires
made_of_plan-requires c =
    let b = book_view c.self.inside.begin c.self.inside.machines c.self.inside.history c.self.inside.entries c.self.inside.settled c.self.inside.held in
    let is_at = subst (λ (b : BookView). IsStepAt b c.args.step.now c.args.at) (sym c.self.view_is) c.requires in
    rw c.records.ensures (places_within b c.self.invariant c.args.step.now c.args.at is_at c.in_ok-plan.plan c.in_ok-plan.ensures)

pub invariant_of-self-in-Ok : goal.invariant_of-self-in-Ok
invariant_of-self-in-Ok c =
    let b = book_view c.self.inside.begin c.self.inside.machines c.self.inside.history c.self.inside.entries c.self.inside.settled c.self.inside.held in
    rw c.reserve_entries.ensures.items
    (tied_room b c.self.inside.history c.self.inside.machines.entries (vec_capacity c.reserve_entries.new.entries) c.self.inside.held c.self.invariant (hold_itself c.self.inside.held) refl (λ s base ts is. is) (λ name. refl) c.reserve_entries.ensures.kept)

pub returns-in-Ok-clause-made : goal.returns-in-Ok-clause-made
returns-in-Ok-clause-made c =
    let b = book_view c.self.inside.begin c.self.inside.machines c.self.inside.history c.self.inside.entries c.self.inside.settled c.self.inside.held in
    let is_at = subst (λ (b : BookView). IsStepAt b c.args.step.now c.args.at) (sym c.self.view_is) c.requires in
    let made = rw c.records.ensures at c.in-Ok.ensures in
    subst (λ (b : BookView). MakesHold b.log (history_records c.self.inside.history) c.args.step.now c.in-Ok.made) c.self.view_is
    (made_hold b c.self.invariant c.args.step.now c.args.at is_at c.in_ok-plan.plan c.in_ok-plan.ensures c.in-Ok.made made)
