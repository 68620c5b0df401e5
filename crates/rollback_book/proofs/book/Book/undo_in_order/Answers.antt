use Rattle.std.proofs.Common.{◌≡◌, List, inl, inr, ap, sym, subst, ◌∙◌, None, Some, Ok, Err}
use Rattle.saved_steps.specs.declared.record.StepRecord.{StepRecord}
use Rattle.depends.proofs.Searching.{facts}
use Rattle.book_log.specs.Answers.{order_answer}
use Rattle.book_log.specs.Legal.{IsLegal}
use Rattle.book_log.specs.Log.{Log}
use Rattle.rollback_book.specs.Book.{BookView}
use Rattle.rollback_book.specs.Ordering.{order_refusal}
use Rattle.rollback_book.specs.Settling.{absent_in}
use Rattle.rollback_book.proofs.Commuted.{holds_consequences, leaves_one, only_memory, undoes}
use Rattle.rollback_book.proofs.Ordered.{order_answered}
use Rattle.rollback_book.proofs.book.Book.undo_in_order.Goals as goal

pub returns-in-Err-clause-answer : goal.returns-in-Err-clause-answer
returns-in-Err-clause-answer c =
    let steps = c.args.steps.now in
    let e = c.in-Err.refusal in
    elim c.in-Err.ensures [
      | inl m ↦ inl m
      | inr h ↦ inr (subst (λ (b : BookView). order_answer b.log steps ≡ Err e) c.self.view_is
          (order_answered _ c.self.invariant steps (Some e) (ap (λ (rs : List StepRecord). order_refusal (absent_in c.self.inside.settled.items) (facts rs) steps) (sym c.records.ensures) ∙ h)))
    ]

pub take_back_in_order-requires : goal.take_back_in_order-requires
take_back_in_order-requires c =
    let steps = c.args.steps.now in
    subst (λ (b : BookView). (after : Log) × (order_answer b.log steps ≡ Ok after)) c.self.view_is
    (order_answered _ c.self.invariant steps None (ap (λ (rs : List StepRecord). order_refusal (absent_in c.self.inside.settled.items) (facts rs) steps) (sym c.records.ensures) ∙ c.in-Ok.ensures))

pub returns-in-Ok-clause-allowed : goal.returns-in-Ok-clause-allowed
returns-in-Ok-clause-allowed c =
    let legal = subst (λ (b : BookView). IsLegal b.log) c.self.view_is c.self.invariant.legal in
    undoes c.args.self.now.log legal c.args.steps.now c.take_back_in_order.result c.take_back_in_order.new.self.log c.take_back_in_order.ensures.ok c.take_back_in_order.ensures.memory

pub returns-in-Ok-clause-whole : goal.returns-in-Ok-clause-whole
returns-in-Ok-clause-whole c =
    let legal = subst (λ (b : BookView). IsLegal b.log) c.self.view_is c.self.invariant.legal in
    holds_consequences c.args.self.now.log legal c.args.steps.now c.take_back_in_order.result c.take_back_in_order.new.self.log c.take_back_in_order.ensures.ok

pub returns-in-Ok-clause-one : goal.returns-in-Ok-clause-one
returns-in-Ok-clause-one c =
    let legal = subst (λ (b : BookView). IsLegal b.log) c.self.view_is c.self.invariant.legal in
    leaves_one c.args.self.now.log legal c.args.steps.now c.take_back_in_order.result c.take_back_in_order.new.self.log c.take_back_in_order.ensures.ok

pub returns-in-Err-clause-allowed : goal.returns-in-Err-clause-allowed
returns-in-Err-clause-allowed c =
    let legal = subst (λ (b : BookView). IsLegal b.log) c.self.view_is c.self.invariant.legal in
    only_memory c.args.self.now.log legal c.args.steps.now c.in-Err.refusal (returns-in-Err-clause-answer c)
