use Rattle.std.proofs.Common.{ap}
use Rattle.sqlite.specs.Held.{state}
use Rattle.sqlite.specs.Order.{Row}
use Rattle.std.proofs.Common.{List, map}
use Rattle.book_journal.specs.Entries.{shown}
use Rattle.book_journal.proofs.Statements.{creates}
use Rattle.book_journal.proofs.insert.create.Goals as goal

pub returns-clause-ok : goal.returns-clause-ok
returns-clause-ok g c clean blank =
    let old = state g.S.Store c.args.tx.now.conn.now in
    let new = state g.S.Store c.execute.new.self.conn.now in
    let ran = c.in_ok-execute.ensures.runs clean blank.mode in
    let made = creates old new _ blank.schema ran.0 in
    record { ready = record { mode = ran.1.mode; schema = made.0 }; committed = ran.1.committed_is; none = ap (λ (rows : List Row). map shown rows) made.1 }
