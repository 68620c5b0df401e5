use Rattle.std.proofs.Common.{◌≡◌, ◌∙◌, inl, inr, refl, ap, sym, subst, Err}
use Rattle.std.specs.Prelude.{IsOk}
use Rattle.book_log.specs.Answers.{absent, plan_answer}
use Rattle.rollback_book.specs.Book.{BookView, book_view}
use Rattle.rollback_book.proofs.Free.{no_plan, plan_is}
use Rattle.rollback_book.proofs.book.Book.plan_room.Goals as goal

pub returns-in_default : goal.returns-in_default
returns-in_default c =
    inr (subst (λ (b : BookView). plan_answer b.log c.args.step.now ≡ Err (absent b.log c.args.step.now)) c.self.view_is (no_plan _ c.self.invariant c.args.step.now (sym c.in_default.ensures)) ∙ ap Err (sym c.absent.ensures))

pub returns-in-Err : goal.returns-in-Err
returns-in-Err c =
    let b = book_view c.self.inside.begin c.self.inside.machines c.self.inside.history c.self.inside.entries c.self.inside.settled c.self.inside.held in
    inl (
      refl,
      subst (λ (b : BookView). IsOk (plan_answer b.log c.args.step.now)) c.self.view_is
          (subst IsOk (sym (plan_is b c.self.invariant c.args.step.now c.in-Some.at (sym c.in-Some.ensures))) refl),
    )
