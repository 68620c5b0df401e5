use Rattle.std.proofs.Common.{◌≡◌, ◌∙◌, None, true, refl, ap, sym, subst}
use Rattle.std.specs.Prelude.{is_some, not}
use Rattle.book_log.specs.Answers.{step_named}
use Rattle.book_log.specs.Log.{remaining}
use Rattle.rollback_book.specs.Book.{BookView}
use Rattle.rollback_book.proofs.Remaining.{none_rerun, none_where, remain_all, remain_on}
use Rattle.rollback_book.proofs.Retaken.{found_some, not_there}
use Rattle.rollback_book.proofs.book.Book.check_all.Goals as goal

pub returns-then-is_none-clause-err : goal.returns-then-is_none-clause-err
returns-then-is_none-clause-err c =
    let log = c.args.self.now.log in
    let name = c.name-item.result in
    let gone = none_where c.find.result (c.is_none.ensures ∙ ap not c.if-is_none.true) in
    let none = subst (λ (b : BookView). step_named name (remaining b.log) ≡ None) c.self.view_is (not_there _ c.self.invariant name (sym c.find.ensures ∙ gone)) in
    (refl, none_rerun log c.args.steps.now c.loop-name.name-index name c.loop-name-test.true c.name-item.is none c.loop-name.invariant)

pub loop-name-preserved : goal.loop-name-preserved
loop-name-preserved c =
    let log = c.args.self.now.log in
    let name = c.name-item.result in
    let some = c.is_none.ensures ∙ ap not c.if-is_none.false in
    let there = subst (λ (b : BookView). is_some (step_named name (remaining b.log)) ≡ true) c.self.view_is (found_some _ c.self.invariant name c.find.result c.find.ensures some) in
    remain_on log c.args.steps.now c.loop-name.name-index name c.loop-name-test.true c.name-item.is there c.loop-name.invariant

pub returns-clause-ok : goal.returns-clause-ok
returns-clause-ok c = remain_all c.args.self.now.log c.args.steps.now c.loop-name.name-index c.loop-name-test.false c.loop-name.invariant
