use Rattle.std.proofs.Common.{◌≡◌, ◌∙◌, inl, refl, sym, subst, true, false, Result}
use Rattle.book_log.specs.Answers.{is_full_for_define}
use Rattle.book_log.specs.declared.refusal.Refusal.{Refusal}
use Rattle.book_log.specs.declared.refusal.Refusal.TheVariants.{Full, Memory}
use Rattle.book_log.proofs.Settling.{room_settles}
use Rattle.rollback_book.specs.Book.{BookView, book_view}
use Rattle.book_events.specs.Planned.{OrMemory}
use Rattle.rollback_book.proofs.Added.{on_ok}
use Rattle.rollback_book.proofs.HoldAnswers.{settle_refusal}
use Rattle.rollback_book.proofs.Settled.{settle_full, settle_ready}
use Rattle.rollback_book.proofs.Tied.{define_full_by}
use Rattle.rollback_book.proofs.book.Book.ready_settle.Goals as goal

pub returns-then-is_full_for_define-clause-answer : goal.returns-then-is_full_for_define-clause-answer
returns-then-is_full_for_define-clause-answer c =
    let full = (subst (λ (b : BookView). is_full_for_define b.log ≡ true) c.self.view_is
    (define_full_by (book_view c.self.inside.begin c.self.inside.machines c.self.inside.history c.self.inside.entries c.self.inside.settled c.self.inside.held) c.self.invariant c.len.result c.len-2.result c.is_full_for_define.result (c.len.ensures ∙ c.self.inside.entries.ok.0) c.len-2.ensures c.is_full_for_define.ensures ∙ c.if-is_full_for_define.true)) in
    inl (subst (λ (r : Result (Unit {0}) Refusal). OrMemory r Full) (sym (settle_full c.args.self.now.log c.in_default.ensures full)) refl)

pub returns-then-is_err-clause-answer : goal.returns-then-is_err-clause-answer
returns-then-is_err-clause-answer c =
    let free = (subst (λ (b : BookView). is_full_for_define b.log ≡ false) c.self.view_is
    (define_full_by (book_view c.self.inside.begin c.self.inside.machines c.self.inside.history c.self.inside.entries c.self.inside.settled c.self.inside.held) c.self.invariant c.len.result c.len-2.result c.is_full_for_define.result (c.len.ensures ∙ c.self.inside.entries.ok.0) c.len-2.ensures c.is_full_for_define.ensures ∙ c.if-is_full_for_define.false)) in
    inl (subst (λ (r : Result (Unit {0}) Refusal). OrMemory r Memory) (sym (room_settles c.args.self.now.log c.in_default.ensures free)) refl)

pub returns-clause-answer : goal.returns-clause-answer
returns-clause-answer c =
    let free = (subst (λ (b : BookView). is_full_for_define b.log ≡ false) c.self.view_is
    (define_full_by (book_view c.self.inside.begin c.self.inside.machines c.self.inside.history c.self.inside.entries c.self.inside.settled c.self.inside.held) c.self.invariant c.len.result c.len-2.result c.is_full_for_define.result (c.len.ensures ∙ c.self.inside.entries.ok.0) c.len-2.ensures c.is_full_for_define.ensures ∙ c.if-is_full_for_define.false)) in
    (room_settles c.args.self.now.log c.in_default.ensures free, refl)

pub returns-clause-ready : goal.returns-clause-ready
returns-clause-ready c =
    let free = (subst (λ (b : BookView). is_full_for_define b.log ≡ false) c.self.view_is
    (define_full_by (book_view c.self.inside.begin c.self.inside.machines c.self.inside.history c.self.inside.entries c.self.inside.settled c.self.inside.held) c.self.invariant c.len.result c.len-2.result c.is_full_for_define.result (c.len.ensures ∙ c.self.inside.entries.ok.0) c.len-2.ensures c.is_full_for_define.ensures ∙ c.if-is_full_for_define.false)) in
    let fine = sym c.is_err.ensures.value ∙ c.if-is_err.false in
    settle_ready c.args.self.now c.make_settling.new.self c.make_settling.ensures.log c.in_default.ensures free (on_ok c.make_settling.result _ fine c.make_settling.ensures.names) (on_ok c.make_settling.result _ fine c.make_settling.ensures.room)

pub returns-in-Err-clause-answer : goal.returns-in-Err-clause-answer
returns-in-Err-clause-answer c = settle_refusal c.args.self.now.log c.in-Err.refusal c.in-Err.ensures
