use Rattle.std.proofs.Common.{◌≡◌, ◌++◌, sym, decimal, codes, rules, Ok, Err}
use Rattle.rollback_run.proofs.Writes.{flushed, sizes_parts, stopped, written_on}
use Rattle.rollback_run.proofs.running.print.Goals as goal

pub returns-in_err-write_number : goal.returns-in_err-write_number
returns-in_err-write_number g c =
    let lines = c.args.sizes.0 in
    let steps = c.args.sizes.1 in
    let fault = c.in_err-write_number.field-0.0 in
    let refused : c.from_residual.result ≡ Err fault = search rules in
    let new = g.W.Write.contents c.write_number.new.writer in
    rw (refused, sym (sizes_parts lines steps)) (stopped (codes "ok " ++ (decimal lines ++ codes " ")) (decimal steps ++ codes "\n") fault _ new c.in_err-write_number.ensures)

pub returns-in_err-write_number-2 : goal.returns-in_err-write_number-2
returns-in_err-write_number-2 g c =
    let lines = c.args.sizes.0 in
    let steps = c.args.sizes.1 in
    let fault = c.in_err-write_number-2.field-0.0 in
    let refused : c.from_residual-in_err-write_number-2.result ≡ Err fault = search rules in
    let between = g.W.Write.contents c.write_number.new.writer in
    let new = g.W.Write.contents c.write_number-2.new.writer in
    rw (refused, sym (sizes_parts lines steps)) (written_on (codes "ok " ++ (decimal lines ++ codes " ")) (decimal steps ++ codes "\n") (Err fault) _ between new c.in_ok-write_number.ensures c.in_err-write_number-2.ensures)

pub returns : goal.returns
returns g c =
    let lines = c.args.sizes.0 in
    let steps = c.args.sizes.1 in
    let between = g.W.Write.contents c.write_number.new.writer in
    let later = g.W.Write.contents c.write_number-2.new.writer in
    let both = written_on (codes "ok " ++ (decimal lines ++ codes " ")) (decimal steps ++ codes "\n") (Ok tt) _ between later c.in_ok-write_number.ensures c.in_ok-write_number-2.ensures in
    rw (sym (sizes_parts lines steps)) (flushed ((codes "ok " ++ (decimal lines ++ codes " ")) ++ (decimal steps ++ codes "\n")) c.flush.result _ later (g.W.Write.contents c.flush.new.writer) both c.flush.ensures.kept c.flush.ensures.err)
