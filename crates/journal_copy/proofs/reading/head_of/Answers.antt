use Rattle.std.proofs.Common.{arith, sym}
use Rattle.std.proofs.lemmas.List.{take_all}
use Rattle.journal_copy.proofs.reading.head_of.Goals as goal

pub returns-then-log-lt-HEADER : goal.returns-then-log-lt-HEADER
returns-then-log-lt-HEADER c =
    let short = c.if-log-lt-HEADER.true in
    sym (take_all 32 c.args.log.now (omega (arith, short)))
