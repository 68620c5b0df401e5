use Rattle.std.proofs.Common.{◌∙◌, Err, ap}
use Rattle.sqlite.specs.Held.{state}
use Rattle.journaled_book.proofs.Unopened.{refuses_open}
use Rattle.journaled_book.proofs.loading.load.Goals as goal

pub returns-in-Err-clause-refused : goal.returns-in-Err-clause-refused
returns-in-Err-clause-refused g c = λ clean.
    refuses_open (state g.S.Store c.args.journal.now) (state g.S.Store c.load.new.self) c.in-Err.fault c.open_fault.result c.open_fault.ensures
    (λ n is. c.load.ensures.gap clean n (c.in-Err.is ∙ ap Err is))
    (λ cause is. c.load.ensures.cause clean cause (c.in-Err.is ∙ ap Err is))
