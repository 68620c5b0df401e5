use Rattle.std.proofs.Common.{◌≡◌, ◌∙◌, rules, subst, sym, true}
use Rattle.book_events.specs.Commits.{AnswersCommit, IsFresh}
use Rattle.book_log.specs.Legal.{IsLegal}
use Rattle.book_log.specs.Log.{Log}
use Rattle.book_log.specs.declared.entry.Entry.TheVariants.{Step as Stepped}
use Rattle.shared_book.specs.Away.{WasRefused}
use Rattle.shared_book.specs.Commits.{IsNotTaken, IsNotTakenAt, is_turn_held}
use Rattle.shared_book.specs.Views.{DeskView}
use Rattle.shared_book.specs.declared.refusal.SharedCommitRefusal.{SharedCommitRefusal}
use Rattle.std.specs.Prelude.{Err}
use Rattle.shared_book.proofs.Answering.{given, may_see, turn_accepted, turn_not_taken, turn_not_taken_at, turn_of}
use Rattle.shared_book.proofs.Entered.{entered}
use Rattle.shared_book.proofs.HeldBack.{held_turn}
use Rattle.shared_book.proofs.desk.Desk.take_turn.Goals as goal

pub step_entry-entry-requires : goal.step_entry-entry-requires
step_entry-entry-requires g c = turn_of _ c.args.thread.now c.in-Ok-commit.moved c.in-Ok-commit.ensures.answer.1 ∙ sym c.in-Ok-copy.ensures

pub returns-clause-entry : goal.returns-clause-entry
returns-clause-entry g c = rw (c.finish.ensures.receipt, c.step_entry-entry.ensures) (turn_of _ c.args.thread.now c.in-Ok-commit.moved c.in-Ok-commit.ensures.answer.1)

pub returns-clause-after : goal.returns-clause-after
returns-clause-after g c =
    let moved = c.in-Ok-commit.moved in
    let accepted = turn_accepted _ c.args.thread.now moved c.in-Ok-commit.ensures.answer.1 in
    let gave = given _ _ _ _ _ _ _ _ _ c.self.view_is c.pass.view_is c.admit.ensures.goes c.admit.ensures.legal c.in-Ok.ensures.known (Stepped moved.name moved.kind) _ _ _ _ _ _ _ c.in-Ok.ensures.number
    accepted c.step_entry-entry.ensures c.admit.ensures.items c.finish.ensures.items c.finish.ensures.receipt c.finish.ensures.seen.0 (c.finish.ensures.seen.1 ∙ c.admit.ensures.same.1) in
    let fresh = subst (λ (d : DeskView). IsFresh d.log c.args.thread.now c.args.prepared) c.self.view_is c.in-Ok-commit.ensures.answer.0 in
    ((gave.0, subst (λ (log : Log). IsFresh log c.args.thread.now c.args.prepared) (sym gave.1) fresh), gave.1)

pub invariant_of-self-2 : goal.invariant_of-self-2
invariant_of-self-2 g c =
    let moved = c.in-Ok-commit.moved in
    let accepted = turn_accepted _ c.args.thread.now moved c.in-Ok-commit.ensures.answer.1 in
    entered _ _ _ _ _ _ _ _ _ _ _ _ _ c.self.invariant c.self.view_is c.admit.ensures.legal (Stepped moved.name moved.kind) _ accepted c.in-Ok-commit.ensures.log c.step_entry-entry.ensures c.finish.ensures.total c.finish.ensures.spare c.finish.ensures.claims c.finish.ensures.back

pub returns-in-Err-commit-clause-held : goal.returns-in-Err-commit-clause-held
returns-in-Err-commit-clause-held g c = λ h.
    let t = c.args.thread.now in
    let told = subst (λ (e : SharedCommitRefusal). is_turn_held e ≡ true) c.not_taken.ensures h in
    subst (λ (d : DeskView). IsLegal d.log → WasRefused d.log t) c.self.view_is (λ legal. held_turn _ t c.args.prepared c.in-Err-commit.refusal legal c.in-Err-commit.ensures.answer told) c.admit.ensures.legal

pub returns-in-Err-commit-clause-err : goal.returns-in-Err-commit-clause-err
returns-in-Err-commit-clause-err g c =
    let t = c.args.thread.now in
    let p = c.args.prepared in
    let r = c.in-Err-commit.refusal in
    let answer = subst (λ (d : DeskView). AnswersCommit d.log t p (Err r)) c.self.view_is c.in-Err-commit.ensures.answer in
    let may = may_see _ _ _ _ _ _ _ _ _ c.self.view_is c.pass.view_is c.admit.ensures.goes c.admit.ensures.legal c.in-Ok.ensures.known in (
      subst (IsNotTaken g.L.Sharing.begun t p c.args.pass.now) (sym c.not_taken.ensures) (turn_not_taken g.L.Sharing.begun c.args.self.now.log c.args.pass.now t p r may answer),
      search rules,
      search rules,
    )

pub returns-in-Err-commit-clause-cause : goal.returns-in-Err-commit-clause-cause
returns-in-Err-commit-clause-cause g c =
    let t = c.args.thread.now in
    let p = c.args.prepared in
    let r = c.in-Err-commit.refusal in
    let answer = subst (λ (d : DeskView). AnswersCommit d.log t p (Err r)) c.self.view_is c.in-Err-commit.ensures.answer in
    subst (IsNotTakenAt c.args.self.now.log t p c.args.pass.now) (sym c.not_taken.ensures) (turn_not_taken_at c.args.self.now.log c.args.pass.now t p r answer)
