use Rattle.std.proofs.Common.{rules, ◌≡◌, ◌≤◌, inr, refl, ap, sym, subst, true, Option, None, Err}
use Rattle.std.specs.Prelude.{is_some}
use Rattle.saved_steps.specs.Steps.{Step}
use Rattle.book_log.specs.Answers.{step_named}
use Rattle.book_log.specs.Log.{remaining}
use Rattle.book_log.specs.declared.refusal.Refusal.TheVariants.{NoStep}
use Rattle.rollback_book.specs.Book.{BookView}
use Rattle.rollback_book.specs.Rerunning.{Retakes}
use Rattle.rollback_book.proofs.Retaken.{found_some, not_there, move_there}
use Rattle.rollback_book.proofs.book.Book.take_again.Goals as goal

pub returns-in_default : goal.returns-in_default
returns-in_default c =
    let none = subst (λ (b : BookView). step_named c.args.name.now (remaining b.log) ≡ None) c.self.view_is (not_there _ c.self.invariant c.args.name.now (sym c.in_default.ensures)) in
    subst (λ (o : Option Step). Retakes {T = Unit {0}} c.args.again.now.log o (Err NoStep) c.args.again.now.log) (sym none) (inr refl)

pub start_again-requires-clause-remains : goal.start_again-requires-clause-remains
start_again-requires-clause-remains c =
    subst (λ (b : BookView). is_some (step_named c.args.name.now (remaining b.log)) ≡ true) c.self.view_is (found_some _ c.self.invariant c.args.name.now c.find.result c.find.ensures (ap is_some c.in-Some.is))

pub returns : goal.returns
returns c =
    let there = subst (λ (b : BookView). is_some (step_named c.args.name.now (remaining b.log)) ≡ true) c.self.view_is (found_some _ c.self.invariant c.args.name.now c.find.result c.find.ensures (ap is_some c.in-Some.is)) in
    let least : 1 ≤ c.args.name.now.no = search rules in
    subst (λ (o : Option Step). Retakes c.args.again.now.log o c.step_to.result c.step_to.new.self.log) (sym (move_there c.args.self.now.log c.args.name.now least there)) c.step_to.ensures
