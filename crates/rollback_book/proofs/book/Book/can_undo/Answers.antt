use Rattle.std.proofs.Common.{◌≡◌, arith, refl, ◌∙◌, ap, sym, subst, length, Err}
use Rattle.step_names.specs.declared.step.StepName.{StepName}
use Rattle.book_log.specs.Answers.{absent, undo_answer}
use Rattle.book_log.specs.declared.refusal.Refusal.TheVariants.{HasDependents}
use Rattle.rollback_book.specs.Book.{BookView, IsMaximalPlace}
use Rattle.rollback_book.proofs.Free.{no_step_answer, free_place, dependent_within, dependent_answer}
use Rattle.rollback_book.proofs.book.Book.can_undo.Goals as goal

pub returns-in_default : goal.returns-in_default
returns-in_default c =
    subst (λ (b : BookView). undo_answer b.log c.args.room.step ≡ Err (absent b.log c.args.room.step)) c.self.view_is
    (no_step_answer _ c.self.invariant c.args.room.step (sym c.in_default.ensures)) ∙ ap Err (sym c.absent-gone.ensures)

pub returns-in_default-first_dependent : goal.returns-in_default-first_dependent
returns-in_default-first_dependent c = (
  refl,
  subst (λ (b : BookView). IsMaximalPlace b c.args.room.step c.in-Some.at) c.self.view_is
      (free_place _ c.self.invariant c.args.room.step c.in-Some.at (sym c.in-Some.ensures) (sym c.in_default-first_dependent.ensures)),
)

pub get-needing-requires : goal.get-needing-requires
get-needing-requires c =
    let w = dependent_within _ c.self.invariant c.args.room.step c.in-Some.at (sym c.in-Some.ensures) c.in-Some-first_dependent.dependent (sym c.in-Some-first_dependent.ensures) in
    let n = ap length c.records.ensures in
    omega (arith, w, n)

pub returns : goal.returns
returns c =
    let at = c.in-Some-first_dependent.dependent in
    let here = rw c.records.ensures at c.get-needing.ensures in
    subst (λ (b : BookView). undo_answer b.log c.args.room.step ≡ Err (HasDependents c.step.result)) c.self.view_is
    (dependent_answer _ c.self.invariant c.args.room.step c.in-Some.at (sym c.in-Some.ensures) at c.get-needing.result.now (sym c.in-Some-first_dependent.ensures) here
    ∙ ap (λ (n : StepName). Err (HasDependents n)) (sym c.step.ensures))
