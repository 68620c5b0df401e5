use Rattle.std.proofs.Common.{◌≡◌, arith, refl, ◌∙◌, ap, inl, inr, sym, subst, true, length, Err}
use Rattle.step_names.specs.declared.step.StepName.{StepName}
use Rattle.book_log.specs.Answers.{absent, remains, undo_answer}
use Rattle.book_log.specs.declared.refusal.Refusal.TheVariants.{HasDependents}
use Rattle.rollback_book.specs.Book.{BookView, IsMaximalPlace}
use Rattle.rollback_book.proofs.Free.{no_step_answer, free_place, dependent_within, dependent_answer, remains_there}
use Rattle.rollback_book.proofs.book.Book.free_place.Goals as goal

pub returns-in_default : goal.returns-in_default
returns-in_default c =
    inr (subst (λ (b : BookView). undo_answer b.log c.args.step.now ≡ Err (absent b.log c.args.step.now)) c.self.view_is
    (no_step_answer _ c.self.invariant c.args.step.now (sym c.in_default.ensures)) ∙ ap Err (sym c.absent.ensures))

pub returns-in_default-first_dependent : goal.returns-in_default-first_dependent
returns-in_default-first_dependent c = (
  subst (λ (b : BookView). IsMaximalPlace b c.args.step.now c.in-Some.at) c.self.view_is
      (free_place _ c.self.invariant c.args.step.now c.in-Some.at (sym c.in-Some.ensures) (sym c.in_default-first_dependent.ensures)),
  subst (λ (b : BookView). remains b.log c.args.step.now ≡ true) c.self.view_is (remains_there _ c.self.invariant c.args.step.now c.in-Some.at (sym c.in-Some.ensures)),
)

pub get-needing-requires : goal.get-needing-requires
get-needing-requires c =
    let w = dependent_within _ c.self.invariant c.args.step.now c.in-Some.at (sym c.in-Some.ensures) c.in-Some-first_dependent.dependent (sym c.in-Some-first_dependent.ensures) in
    let n = ap length c.records.ensures in
    omega (arith, w, n)

pub returns-in-Ok : goal.returns-in-Ok
returns-in-Ok c =
    let at = c.in-Some-first_dependent.dependent in
    let here = rw c.records.ensures at c.get-needing.ensures in
    inr (subst (λ (b : BookView). undo_answer b.log c.args.step.now ≡ Err (HasDependents c.in-Ok.name)) c.self.view_is
    (dependent_answer _ c.self.invariant c.args.step.now c.in-Some.at (sym c.in-Some.ensures) at c.get-needing.result.now (sym c.in-Some-first_dependent.ensures) here
    ∙ ap (λ (n : StepName). Err (HasDependents n)) (sym c.in-Ok.ensures)))

pub returns-in-Err : goal.returns-in-Err
returns-in-Err c =
    inl (refl, subst (λ (b : BookView). remains b.log c.args.step.now ≡ true) c.self.view_is (remains_there _ c.self.invariant c.args.step.now c.in-Some.at (sym c.in-Some.ensures)))
