use Rattle.std.proofs.Common.{◌≡◌, ◌+◌, ◌++◌, ◌∷◌, [], ℕ, List, Option, Ok, Err, Some, refl, sym, ap, ◌∙◌, subst}
use Rattle.std.specs.Prelude.{IfOk, IfSome, IsOk}
use Rattle.book_log.specs.Answers.{step_answer}
use Rattle.book_log.specs.Legal.{IsLegal}
use Rattle.book_log.specs.Log.{Log, appended}
use Rattle.book_log.specs.declared.entry.Entry.{Entry}
use Rattle.book_log.specs.declared.entry.Entry.TheVariants.{Step as Stepped}
use Rattle.reply_lines.specs.Replying.{AreLines}
use Rattle.journaled_book.proofs.Threads.{step_thread}
use Rattle.journaled_book.specs.Cursors.{GoesBack, LeavesNoneOut, cursor_place}
use Rattle.journaled_book.specs.Journaled.{log_of, with_entry}
use Rattle.journaled_book.specs.Answered.{IsStepAnswered}
use Rattle.journaled_book.specs.declared.fault.EntryFault.TheVariants as by
use Rattle.operator_line.specs.Answers.{IsLeastEnabled}
use Rattle.step_names.specs.Written.{step_text}
use Rattle.step_names.specs.declared.step.StepName.{StepName}
use Rattle.operator_line.specs.Sessions.{log_in}
use Rattle.operator_line.specs.Driving.{IsFound, KeepsLines, passed_in}
use Rattle.operator_line.proofs.Replied.{in_log}
use Rattle.operator_line.proofs.Sessions.{some_kept, some_log}
use Rattle.operator_line.proofs.Taken.{all_after_passing, all_after_step, all_in, its_turn, own_name, refused_turn}
use Rattle.operator_line.proofs.driving.take_step.Goals as goal

pub returns-in-Err-clause-step : goal.returns-in-Err-clause-step
returns-in-Err-clause-step g c =
    let t = c.in-Some.thread in
    let P = passed_in c.args.passed.now in
    let e = c.in-Err.refusal in
    let keeps : KeepsLines c.args.lines.now c.reserve_step.new.self = (c.reserve_step.ensures.count, λ texts h. record { counted = c.reserve_step.ensures.count ∙ h.counted; written = c.reserve_step.ensures.text ∙ h.written }) in
    λ before held.
    let first = its_turn (log_in g.B.Events.log c.args.book.now) P c.first_ready.result c.in_ok-thread.field-0 t before c.in_ok-thread.was c.in-Some.is held c.first_ready.ensures.first in
    let answer = in_log g.B.Events.log (λ s. IsStepAnswered s t (Err e)) c.args.book.now.book before held c.in-Err.ensures.answer in
    (before, c.prepare.ensures.log ∙ held, refused_turn before t c.args.passed.now c.pass_by.new.passed c.args.lines.now c.reserve_step.new.self e c.pass_by.result first answer c.pass_by.ensures.passes keeps)

pub returns-in-Err-clause-open : goal.returns-in-Err-clause-open
returns-in-Err-clause-open g c = some_kept g.B.Events.log c.args.book.now.book c.prepare.new.self.book c.requires.open c.prepare.ensures.log

pub returns-clause-step : goal.returns-clause-step
returns-clause-step g c =
    let t = c.in-Some.thread in
    let P = passed_in c.args.passed.now in
    let keeps : (texts : List (List ℕ)) → AreLines c.args.lines.now texts → AreLines c.reserve_step.new.self texts = λ texts h. record { counted = c.reserve_step.ensures.count ∙ h.counted; written = c.reserve_step.ensures.text ∙ h.written } in
    λ before held.
    let first = its_turn (log_in g.B.Events.log c.args.book.now) P c.first_ready.result c.in_ok-thread.field-0 t before c.in_ok-thread.was c.in-Some.is held c.first_ready.ensures.first in
    let answer = in_log g.B.Events.log (λ s. IsStepAnswered s t (Ok (g.B.BookCalls.entry_in c.in-Ok.made))) c.args.book.now.book before held c.in-Ok.ensures.answer in
    let m = answer.0 in
    let own : m.name.thread ≡ t = step_thread before t m answer.1 in
    let named = own_name m t c.in-Step.name _ own (sym answer.2 ∙ sym c.entry_of.ensures ∙ c.in-Step.is) in (
      appended before (Stepped m.name m.kind),
      c.in_default-enter.ensures.ok ∙ ap (λ (o : Option Log). with_entry o (g.B.BookCalls.entry_in c.in-Ok.made)) (c.prepare.ensures.log ∙ held) ∙ ap (λ (e : Entry). Some (appended before e)) answer.2,
      (
        m,
        subst (IsLeastEnabled P before) (sym own) first,
        ap (step_answer before) own ∙ answer.1,
        refl,
        c.in-Ok-add_step.ensures.count ∙ ap (λ (n : ℕ). n + 1) c.reserve_step.ensures.count,
        λ texts h. subst (λ (n : StepName). AreLines c.add_step.new.self (texts ++ step_text n ∷ [])) named (c.in-Ok-add_step.ensures.lines texts (keeps texts h)),
        refl,
      ),
    )

-- the search leaves no thread out
pub returns-clause-all : goal.returns-clause-all
returns-clause-all g c =
    let s = some_log g.B.Events.log c.args.book.now.book c.requires.open in
    let before = s.0 in
    let t = c.in-Some.thread in
    let P = passed_in c.args.passed.now in
    let legal : IsLegal before = subst (λ (o : Option Log). IfSome o IsLegal) s.1 c.first_ready.ensures.legal in
    let none : LeavesNoneOut before P (cursor_place c.args.cursor.now) = subst (λ (o : Option Log). IfSome o (λ log. LeavesNoneOut log P (cursor_place c.args.cursor.now))) s.1 c.requires.all in
    let answer = in_log g.B.Events.log (λ l. IsStepAnswered l t (Ok (g.B.BookCalls.entry_in c.in-Ok.made))) c.args.book.now.book before s.1 c.in-Ok.ensures.answer in
    let back = subst (λ (x : List ℕ). GoesBack x (cursor_place c.args.cursor.now) (cursor_place c.go_back.new.self)) c.exec.ensures.exec c.go_back.ensures in
    let after = c.in_default-enter.ensures.ok ∙ ap (λ (o : Option Log). with_entry o (g.B.BookCalls.entry_in c.in-Ok.made)) (c.prepare.ensures.log ∙ s.1) ∙ ap (λ (e : Entry). Some (appended before e)) answer.2 in
    subst (λ (o : Option Log). IfSome o (λ log. LeavesNoneOut log P (cursor_place c.go_back.new.self))) (sym after)
    (all_after_step before t answer.0 P (cursor_place c.args.cursor.now) (cursor_place c.go_back.new.self) legal answer.1 back none)

pub returns-in-Err-clause-all : goal.returns-in-Err-clause-all
returns-in-Err-clause-all g c =
    let s = some_log g.B.Events.log c.args.book.now.book c.requires.open in
    let before = s.0 in
    let t = c.in-Some.thread in
    let P = passed_in c.args.passed.now in
    let found = subst (λ (o : Option Log). IfSome o (λ log. IfOk c.first_ready.result (IsFound P log))) s.1 c.first_ready.ensures.found in
    let first = subst (IsFound P before) c.in-Some.is (subst (λ r. IfOk r (IsFound P before)) c.in_ok-thread.was found) in
    all_in (log_in g.B.Events.log c.prepare.new.self) before c.pass_by.new.passed c.pass_by.new.cursor c.pass_by.result (c.prepare.ensures.log ∙ s.1)
    (all_after_passing before t (by.Book c.in-Err.refusal) c.args.passed.now c.pass_by.new.passed (cursor_place c.pass_by.new.cursor) c.pass_by.result c.pass_by.ensures.passes c.pass_by.ensures.cursor first)

-- the journal refuses the line: nothing was entered
pub returns-in-Err-enter-clause-step : goal.returns-in-Err-enter-clause-step
returns-in-Err-enter-clause-step g c =
    let t = c.in-Some.thread in
    let P = passed_in c.args.passed.now in
    let keeps : KeepsLines c.args.lines.now c.reserve_step.new.self = (c.reserve_step.ensures.count, λ texts h. record { counted = c.reserve_step.ensures.count ∙ h.counted; written = c.reserve_step.ensures.text ∙ h.written }) in
    λ before held.
    let first = its_turn (log_in g.B.Events.log c.args.book.now) P c.first_ready.result c.in_ok-thread.field-0 t before c.in_ok-thread.was c.in-Some.is held c.first_ready.ensures.first in
    let answer = in_log g.B.Events.log (λ s. IsStepAnswered s t (Ok (g.B.BookCalls.entry_in c.in-Ok.made))) c.args.book.now.book before held c.in-Ok.ensures.answer in
    (before, ap (log_of g.B.Events.log) c.in-Err-enter.ensures.err ∙ c.prepare.ensures.log ∙ held, ((t, first, subst IsOk (sym answer.1) refl), refl, keeps))
