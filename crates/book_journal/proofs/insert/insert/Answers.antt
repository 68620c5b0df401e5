use Rattle.std.proofs.Common.{to_z-of_z}
use Rattle.sqlite.specs.Held.{state}
use Rattle.book_journal.proofs.Statements.{inserts}
use Rattle.book_journal.proofs.insert.insert.Goals as goal

pub returns-clause-ok : goal.returns-clause-ok
returns-clause-ok g c clean ready =
    let old = state g.S.Store c.args.tx.now.conn.now in
    let new = state g.S.Store c.execute.new.self.conn.now in
    let ran = simp (to_z-of_z, c.ranges.no) at (rw (c.params-to_sql.ensures, c.params-to_sql-2.ensures) at c.in_ok-execute.ensures.runs clean ready.mode) in
    let added = inserts old new c.args.no c.args.line.now _ ready.schema ran.0 in
    record { ready = record { mode = ran.1.mode; schema = added.0 }; committed = ran.1.committed_is; rows = added.1 }
