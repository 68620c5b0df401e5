use Rattle.operator_line.specs.Lines.{bytes_of}
use Rattle.operator_line.specs.Sessions.{session_log}
use Rattle.operator_line.proofs.Served.{memory-told}
use Rattle.operator_line.proofs.serving.write_answer.Goals as goal

pub returns-in-Err-clause-answers : goal.returns-in-Err-clause-answers
returns-in-Err-clause-answers g c =
    memory-told c.write_all-in-Err.result (bytes_of c.args.line) (session_log g.B.Events.log c.args.session.now) (session_log g.B.Events.log c.answer.new.self)
    (g.W.Write.contents c.args.writer.now) (g.W.Write.contents c.write_all-in-Err.new.writer) c.in-Err.ensures.empty c.in-Err.ensures.err c.write_all-in-Err.ensures
