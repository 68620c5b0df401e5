use Rattle.std.proofs.Common.{◌≡◌, ◌∙◌, ℕ, inl, refl, sym, subst, None, Result, Err}
use Rattle.std.specs.Prelude.{◌⊎◌}
use Rattle.book_log.specs.Answers.{HoldLacks, absent, hold_answer}
use Rattle.book_log.specs.Log.{step_on_hold}
use Rattle.book_log.specs.declared.refusal.Refusal.{Refusal}
use Rattle.book_log.specs.declared.refusal.Refusal.TheVariants.{Full, Memory}
use Rattle.rollback_book.specs.Book.{BookView, book_view}
use Rattle.rollback_book.specs.Holding.{IsHoldRefusal}
use Rattle.book_events.specs.Planned.{OrMemory}
use Rattle.rollback_book.proofs.HoldAnswers.{hold_absent, hold_full, hold_ready, hold_refusal, hold_told, free_answer}
use Rattle.rollback_book.proofs.Tied.{define_full_by}
use Rattle.rollback_book.proofs.book.Book.ready_hold.Goals as goal
use Rattle.step_history.specs.History.{history_records}

pub returns-in_default-clause-answer : goal.returns-in_default-clause-answer
returns-in_default-clause-answer c =
    let b = book_view c.self.inside.begin c.self.inside.machines c.self.inside.history c.self.inside.entries c.self.inside.settled c.self.inside.held in
    let gone = subst (λ (b : BookView). hold_answer b.log c.args.step.now ≡ Err (absent b.log c.args.step.now)) c.self.view_is (hold_absent b c.self.invariant c.args.step.now (sym c.in_default.ensures)) in
    inl (subst (λ (r : Result ℕ Refusal). OrMemory r c.absent.result) (sym gone) c.absent.ensures)

pub returns-in-Err-clause-answer : goal.returns-in-Err-clause-answer
returns-in-Err-clause-answer c =
    let b = book_view c.self.inside.begin c.self.inside.machines c.self.inside.history c.self.inside.entries c.self.inside.settled c.self.inside.held in
    let why = subst (λ (b : BookView). IsHoldRefusal b.log c.in-Err.refusal) (sym c.self.view_is) c.in-Err.ensures in
    subst (λ (b : BookView). OrMemory (hold_answer b.log c.args.step.now) c.in-Err.refusal ⊎ ((c.in-Err.refusal ≡ Memory) × HoldLacks b.log c.args.step.now)) c.self.view_is
    (hold_refusal b c.self.invariant c.args.step.now c.in-Some.at (sym c.in-Some.ensures) c.in-Err.refusal why)

pub returns-then-is_full_for_define-clause-answer : goal.returns-then-is_full_for_define-clause-answer
returns-then-is_full_for_define-clause-answer c =
    let b = book_view c.self.inside.begin c.self.inside.machines c.self.inside.history c.self.inside.entries c.self.inside.settled c.self.inside.held in
    let unheld = subst (λ (b : BookView). step_on_hold b.log ≡ None) (sym c.self.view_is) c.in_default-check_unheld.ensures in
    let full = define_full_by b c.self.invariant c.len.result c.len-2.result c.is_full_for_define.result (c.len.ensures ∙ c.self.inside.entries.ok.0) c.len-2.ensures c.is_full_for_define.ensures ∙ c.if-is_full_for_define.true in
    let answer = subst (λ (b : BookView). hold_answer b.log c.args.step.now ≡ Err Full) c.self.view_is (hold_full b c.self.invariant c.args.step.now c.in-Some.at (sym c.in-Some.ensures) unheld full) in
    inl (subst (λ (r : Result ℕ Refusal). OrMemory r Full) (sym answer) refl)

pub returns-in-Ok-clause-answer : goal.returns-in-Ok-clause-answer
returns-in-Ok-clause-answer c =
    let b = book_view c.self.inside.begin c.self.inside.machines c.self.inside.history c.self.inside.entries c.self.inside.settled c.self.inside.held in
    let unheld = subst (λ (b : BookView). step_on_hold b.log ≡ None) (sym c.self.view_is) c.in_default-check_unheld.ensures in
    let free = define_full_by b c.self.invariant c.len.result c.len-2.result c.is_full_for_define.result (c.len.ensures ∙ c.self.inside.entries.ok.0) c.len-2.ensures c.is_full_for_define.ensures ∙ c.if-is_full_for_define.false in
    let answer = free_answer b c.self.invariant c.args.step.now c.in-Some.at (sym c.in-Some.ensures) unheld free c.args.self.now c.self.view_is in
    hold_told c.args.self.now.log (history_records c.make_hold.new.self.history) c.args.step.now c.in-Ok.made c.in-Ok.ensures.made answer

pub returns-in-Ok-clause-ready : goal.returns-in-Ok-clause-ready
returns-in-Ok-clause-ready c =
    let b = book_view c.self.inside.begin c.self.inside.machines c.self.inside.history c.self.inside.entries c.self.inside.settled c.self.inside.held in
    let unheld = subst (λ (b : BookView). step_on_hold b.log ≡ None) (sym c.self.view_is) c.in_default-check_unheld.ensures in
    let free = define_full_by b c.self.invariant c.len.result c.len-2.result c.is_full_for_define.result (c.len.ensures ∙ c.self.inside.entries.ok.0) c.len-2.ensures c.is_full_for_define.ensures ∙ c.if-is_full_for_define.false in
    let answer = free_answer b c.self.invariant c.args.step.now c.in-Some.at (sym c.in-Some.ensures) unheld free c.args.self.now c.self.view_is in
    hold_ready c.args.self.now.log c.make_hold.new.self c.args.step.now c.in-Ok.made c.in-Ok.ensures.log c.in-Ok.ensures.made answer c.in-Ok.ensures.room

pub returns-in-Err-make_hold-clause-answer : goal.returns-in-Err-make_hold-clause-answer
returns-in-Err-make_hold-clause-answer c =
    let b = book_view c.self.inside.begin c.self.inside.machines c.self.inside.history c.self.inside.entries c.self.inside.settled c.self.inside.held in
    let unheld = subst (λ (b : BookView). step_on_hold b.log ≡ None) (sym c.self.view_is) c.in_default-check_unheld.ensures in
    let free = define_full_by b c.self.invariant c.len.result c.len-2.result c.is_full_for_define.result (c.len.ensures ∙ c.self.inside.entries.ok.0) c.len-2.ensures c.is_full_for_define.ensures ∙ c.if-is_full_for_define.false in
    let answer = free_answer b c.self.invariant c.args.step.now c.in-Some.at (sym c.in-Some.ensures) unheld free c.args.self.now c.self.view_is in
    inl (subst (λ (r : Result ℕ Refusal). OrMemory r Memory) (sym answer) refl)
