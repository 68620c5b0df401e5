use Rattle.std.proofs.Common.{ap, sym, ◌∙◌}
use Rattle.std.specs.Prelude.{reverse}
use Rattle.std.proofs.lemmas.List.{reverse-reverse}
use Rattle.book_log.specs.Answers.{order_answer}
use Rattle.rollback_book.proofs.book.Book.take_back_in_order.Goals as goal

pub take_back_each-requires : goal.take_back_each-requires
take_back_each-requires c = (c.requires.0, ap (order_answer c.args.self.now.log) (ap reverse c.in-Ok.ensures ∙ reverse-reverse c.args.steps.now) ∙ c.requires.1)

pub returns-clause-ok : goal.returns-clause-ok
returns-clause-ok c = ap (order_answer c.args.self.now.log) (sym (ap reverse c.in-Ok.ensures ∙ reverse-reverse c.args.steps.now)) ∙ c.take_back_each.ensures
