use Rattle.journaled_book.proofs.lines.begin_by.Goals as goal

pub returns-in-Table-clause-damaged : goal.returns-in-Table-clause-damaged
returns-in-Table-clause-damaged g c = rw c.in-Table.is c.begin_table.ensures.damaged

pub returns-in-Table-clause-ok : goal.returns-in-Table-clause-ok
returns-in-Table-clause-ok g c = rw c.in-Table.is c.begin_table.ensures.ok
