use Rattle.std.proofs.Common.{arith, ◌-◌, length, refl, sym}
use Rattle.std.proofs.lemmas.Option.{slice_get_read}
use Rattle.rollback_book.proofs.Started.{last_found}
use Rattle.rollback_book.proofs.rerunning.last_start.Goals as goal

pub returns-in-Some : goal.returns-in-Some
returns-in-Some c =
    let entries = c.args.entries.now in
    let later = c.loop-later.later in
    let e = c.index-entries-at.result in
    let all = c.loop-later.invariant.0 in
    let some = c.loop-later-test.true in
    let there = slice_get_read entries (length entries) (later - 1) e refl (omega (arith, all, some)) c.index-entries-at.is in
    sym (last_found c.args.exec.now entries later e (c.in-Some.origin.0.now, c.in-Some.origin.1.now) c.loop-later.invariant.1 (omega (arith, some)) there (sym c.in-Some.ensures))
