use Rattle.journaled_book.proofs.Said.{table_refused}
use Rattle.journaled_book.proofs.lines.begin_table.Goals as goal

pub returns-in-Ok-clause-damaged : goal.returns-in-Ok-clause-damaged
returns-in-Ok-clause-damaged g c =
    λ failed line is begin says ok. table_refused line c.args.table c.args.schema c.args.items.now c.in-Ok.items is c.in-Ok.ensures.ok (c.open_book.ensures.damaged failed) begin says ok
