use Rattle.std.proofs.Common.{[]}
use Rattle.sqlite.specs.Held.{state}
use Rattle.book_journal.proofs.Selects.{commits_nothing, all_unchanged, all_back}
use Rattle.book_journal.proofs.read.select.Goals as goal

pub returns-clause-same : goal.returns-clause-same
returns-clause-same g c clean =
    all_unchanged c.args.sql.now [] (state g.S.Store c.args.conn.now) (state g.S.Store c.query_all.new.self) c.requires (λ rows. rows.items) c.query_all.result (c.query_all.ensures.ok clean)

pub returns-clause-err : goal.returns-clause-err
returns-clause-err g c clean =
    all_back c.args.sql.now [] (state g.S.Store c.args.conn.now) (state g.S.Store c.query_all.new.self) c.requires c.query_all.result (c.query_all.ensures.err clean)

pub returns-clause-survives : goal.returns-clause-survives
returns-clause-survives g c =
    commits_nothing c.args.sql.now [] (state g.S.Store c.args.conn.now) (state g.S.Store c.query_all.new.self) c.requires c.query_all.ensures.survives
