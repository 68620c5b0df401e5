use Rattle.journaled_book.proofs.lines.begin_by_line.Goals as goal

pub returns-in-Ok-clause-damaged : goal.returns-in-Ok-clause-damaged
returns-in-Ok-clause-damaged g c = λ failed. c.begin_by.ensures.damaged failed c.args.line.now c.in-Ok.ensures.ok
