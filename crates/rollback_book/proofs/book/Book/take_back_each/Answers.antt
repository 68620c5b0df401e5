use Rattle.std.proofs.Common.{◌∷◌, [], ap, sym, ◌∙◌}
use Rattle.std.specs.Prelude.{reverse}
use Rattle.std.proofs.lemmas.List.{reverse-append}
use Rattle.book_log.specs.Answers.{order_answer}
use Rattle.rollback_book.proofs.Ordered.{first_undone}
use Rattle.rollback_book.proofs.book.Book.take_back_each.Goals as goal

pub take_back_named-requires : goal.take_back_named-requires
take_back_named-requires c =
    let log = c.loop-step.self.log in
    let step = c.in-Some.step in
    let rest = c.pop.new.self.items in
    let order = ap reverse c.in-Some.ensures.items ∙ reverse-append rest (step ∷ []) in
    first_undone log step (reverse rest) c.requires.0 (ap (order_answer log) (sym order) ∙ c.loop-step.invariant ∙ c.requires.1)
