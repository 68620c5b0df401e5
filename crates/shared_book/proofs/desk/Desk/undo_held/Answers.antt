use Rattle.std.proofs.Common.{◌≡◌, Some, None, inr, refl, subst}
use Rattle.book_events.specs.Calls.{IsLatestLeft}
use Rattle.book_log.specs.Legal.{IsLegal}
use Rattle.book_log.specs.Log.{step_on_hold}
use Rattle.shared_book.specs.Views.{DeskView}
use Rattle.shared_book.proofs.Latest.{gives_latest, is_refused_latest, is_refused_latest_at, latest_undone, nothing_held}
use Rattle.shared_book.proofs.desk.Desk.undo_held.Goals as goal

pub returns-clause-after : goal.returns-clause-after
returns-clause-after g c =
    let step = c.in_ok-step.step in
    let now = subst (λ (d : DeskView). IsLatestLeft d.log (Some step)) c.self.view_is (rw c.in_ok-step.ensures c.in-Some.ensures) in
    gives_latest g.L.Sharing.begun c.args.self.now.log c.args.pass.now c.undo-answer.new.pass step c.undo-answer.result now c.undo-answer.ensures.after c.undo-answer.ensures.entry

pub returns-clause-err : goal.returns-clause-err
returns-clause-err g c =
    let step = c.in_ok-step.step in
    let now = subst (λ (d : DeskView). IsLatestLeft d.log (Some step)) c.self.view_is (rw c.in_ok-step.ensures c.in-Some.ensures) in
    is_refused_latest c.args.self.now.log c.args.pass.now step (latest_undone c.args.self.now.log step c.know.ensures.legal now) g.L.Sharing.begun c.undo-answer.result
    (c.undo-answer.new.pass ≡ c.args.pass.now) (c.undo-answer.new.self ≡ c.args.self.now)
    c.undo-answer.ensures.cause c.undo-answer.ensures.err

pub returns-clause-cause : goal.returns-clause-cause
returns-clause-cause g c =
    let step = c.in_ok-step.step in
    let now = subst (λ (d : DeskView). IsLatestLeft d.log (Some step)) c.self.view_is (rw c.in_ok-step.ensures c.in-Some.ensures) in
    is_refused_latest_at c.args.self.now.log c.args.pass.now step (latest_undone c.args.self.now.log step c.know.ensures.legal now) c.undo-answer.result c.undo-answer.ensures.cause

pub returns-in_default-clause-cause : goal.returns-in_default-clause-cause
returns-in_default-clause-cause g c =
    let none = subst (λ (d : DeskView). IsLegal d.log → step_on_hold d.log ≡ None) c.self.view_is (λ legal. nothing_held _ legal c.in_default.ensures) in
    inr (refl, none c.know.ensures.legal)
