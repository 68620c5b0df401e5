use Rattle.std.proofs.Common.{◌≡◌, ◌++◌, decimal, rules, Err}
use Rattle.rollback_run.proofs.Writes.{stopped, written_on}
use Rattle.rollback_run.proofs.writing.write_number.Goals as goal

pub returns-in_err-write_all-2 : goal.returns-in_err-write_all-2
returns-in_err-write_all-2 g c =
    let digits : c.as_bytes.result.now ≡ decimal c.args.number = search rules in
    let refused : c.from_residual-in_err-write_all-2.result ≡ Err c.in_err-write_all-2.field-0.0 = search rules in
    let fault = c.in_err-write_all-2.field-0.0 in
    let between = g.W.Write.contents c.write_all.new.writer in
    let new = g.W.Write.contents c.write_all-2.new.writer in
    rw refused (written_on c.args.front.now (decimal c.args.number ++ c.args.back.now) (Err fault) _ between new c.in_ok-write_all.ensures
    (stopped (decimal c.args.number) c.args.back.now fault between new (rw digits at c.in_err-write_all-2.ensures)))

pub returns : goal.returns
returns g c =
    let digits : c.as_bytes.result.now ≡ decimal c.args.number = search rules in
    let between = g.W.Write.contents c.write_all.new.writer in
    let later = g.W.Write.contents c.write_all-2.new.writer in
    let new = g.W.Write.contents c.write_all-3.new.writer in
    written_on c.args.front.now (decimal c.args.number ++ c.args.back.now) c.write_all-3.result _ between new c.in_ok-write_all.ensures
    (written_on (decimal c.args.number) c.args.back.now c.write_all-3.result between later new (rw digits at c.in_ok-write_all-2.ensures) c.write_all-3.ensures)
