use Rattle.std.proofs.Common.{length, arith}
use Rattle.operator_line.proofs.Feeds.{none_before}
use Rattle.operator_line.proofs.serving.line_len.Goals as goal

pub returns-in-Some-clause-before : goal.returns-in-Some-clause-before
returns-in-Some-clause-before c =
    none_before c.args.bytes.now c.in-Some.end (omega (arith, c.in-Some.ensures.0.high)) c.in-Some.ensures.0.before

pub returns-in-None-clause-before : goal.returns-in-None-clause-before
returns-in-None-clause-before c = none_before c.args.bytes.now (length c.args.bytes.now) (omega arith) c.in-None.ensures
