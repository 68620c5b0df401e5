use Rattle.std.proofs.Common.{◌≡◌, ℕ, List, Option, Some, option_map, sym, ap, subst, ◌∙◌}
use Rattle.operator_line.specs.Lines.{bytes_of, last_line}
use Rattle.operator_line.specs.Serving.{ServesLast}
use Rattle.operator_line.specs.Sessions.{session_log}
use Rattle.operator_line.proofs.Served.{line-flushed}
use Rattle.operator_line.proofs.serving.serve_last.Goals as goal

pub returns-clause-last : goal.returns-clause-last
returns-clause-last g c =
    let (reply, answered, appended) = c.in_ok-write_answer.ensures.answers in
    let o = g.W.Write.contents c.args.writer.now in
    let n = g.W.Write.contents c.flush.new.writer in
    let last : last_line c.args.buffers.now.line ≡ Some (bytes_of c.in-Some.last) = sym c.last.ensures ∙ ap (option_map bytes_of) c.in-Some.is in
    subst (λ (l : Option (Option (List ℕ))). ServesLast c.flush.result l (session_log g.B.Events.log c.args.session.now) (session_log g.B.Events.log c.write_answer.new.session) o n) (sym last)
    (line-flushed c.flush.result (bytes_of c.in-Some.last) reply (session_log g.B.Events.log c.args.session.now) (session_log g.B.Events.log c.write_answer.new.session) o (g.W.Write.contents c.write_answer.new.writer) n c.flush.ensures.err answered appended c.flush.ensures.kept)
