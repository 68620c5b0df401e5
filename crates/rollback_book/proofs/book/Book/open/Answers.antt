use Rattle.rollback_book.proofs.Empty.{tied_empty}
use Rattle.rollback_book.proofs.book.Book.open.Goals as goal

pub invariant_of-result : goal.invariant_of-result
invariant_of-result c =
    tied_empty c.args.begin c.new.result c.new-in-Ok.result c.new-in-Ok-2.result c.new-in-Ok-3.result c.in-Ok.items c.new.ensures.empty c.new-in-Ok-2.ensures.items
    c.in-Ok.ensures.items c.in-Ok.ensures.table c.in-Ok.ensures.schema c.new-in-Ok.ensures c.new-in-Ok-3.ensures
