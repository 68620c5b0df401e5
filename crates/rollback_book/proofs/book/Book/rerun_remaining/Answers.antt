use Rattle.std.proofs.Common.{List, drop, take, suc, refl, ap, sym, subst, ◌∙◌, inl, inr, Ok}
use Rattle.std.proofs.lemmas.List.{take_all}
use Rattle.book_log.specs.Answers.{outline, rerun_answer, step_named}
use Rattle.book_log.specs.Legal.{IsLegal}
use Rattle.book_log.specs.Log.{Log, remaining}
use Rattle.book_log.specs.declared.entry.Entry.{Entry}
use Rattle.book_log.proofs.LegalRuns.{of_log}
use Rattle.rollback_book.specs.Book.{BookView}
use Rattle.rollback_book.proofs.Commuted.{cannot_run, rerun_of}
use Rattle.rollback_book.proofs.Rerun.{begins, ends_here, goes_on, parts_at, take_next}
use Rattle.rollback_book.proofs.book.Book.rerun_remaining.Goals as goal

pub outlining-requires : goal.outlining-requires
outlining-requires c = subst (λ (l : List Entry). IsLegal (of_log c.self.inside.begin l)) (sym c.as_slice.ensures.value) c.self.invariant.legal

pub loop-name-init : goal.loop-name-init
loop-name-init c =
    begins c.args.self.now.log
    ∙ ap (λ (s : Log). Ok s) (sym (c.in_ok-again.ensures.ok ∙ ap (λ (l : List Entry). of_log c.self.inside.begin (outline l)) c.as_slice.ensures.value ∙ ap (λ (b : BookView). of_log b.log.begin (outline b.log.entries)) c.self.view_is))

pub returns-in-Err-clause-answer : goal.returns-in-Err-clause-answer
returns-in-Err-clause-answer c =
    let log = c.args.self.now.log in
    let legal = subst (λ (b : BookView). IsLegal b.log) c.self.view_is c.self.invariant.legal in
    let steps = c.args.steps.now in
    let i = c.loop-name.name-index in
    let name = c.name-item.result in
    let parts = parts_at steps i name c.loop-name-test.true c.name-item.is in
    elim (ends_here log legal (take i steps) c.loop-name.again.log c.loop-name.invariant name (Unit {0}) (drop (suc i) steps) c.in-Err.refusal (step_named name (remaining log)) c.take_again.new.again.log refl c.in-Err.ensures) [
      | inl m ↦ inl m
      | inr h ↦ inr (ap (rerun_answer log) parts ∙ h)
    ]

pub loop-name-preserved : goal.loop-name-preserved
loop-name-preserved c =
    let log = c.args.self.now.log in
    let legal = subst (λ (b : BookView). IsLegal b.log) c.self.view_is c.self.invariant.legal in
    let steps = c.args.steps.now in
    let i = c.loop-name.name-index in
    let name = c.name-item.result in
    ap (rerun_answer log) (take_next steps i name c.loop-name-test.true c.name-item.is)
    ∙ goes_on log legal (take i steps) c.loop-name.again.log c.loop-name.invariant name tt (step_named name (remaining log)) c.take_again.new.again.log refl c.in-Ok.ensures

pub returns-in-Err-clause-err : goal.returns-in-Err-clause-err
returns-in-Err-clause-err c =
    let log = c.args.self.now.log in
    let legal = subst (λ (b : BookView). IsLegal b.log) c.self.view_is c.self.invariant.legal in
    elim (returns-in-Err-clause-answer c) [ inl m ↦ inl m | inr h ↦ inr (cannot_run log legal c.args.steps.now c.in-Err.refusal h) ]

pub returns-clause-ok : goal.returns-clause-ok
returns-clause-ok c =
    let log = c.args.self.now.log in
    let legal = subst (λ (b : BookView). IsLegal b.log) c.self.view_is c.self.invariant.legal in
    let all = take_all c.loop-name.name-index c.args.steps.now c.loop-name-test.false in
    rerun_of log legal c.args.steps.now c.loop-name.again.log (ap (rerun_answer log) (sym all) ∙ c.loop-name.invariant)
