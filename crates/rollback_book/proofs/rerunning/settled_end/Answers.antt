use Rattle.std.proofs.Common.{arith, ◌-◌, length, refl, sym, ◌∙◌}
use Rattle.std.proofs.lemmas.Option.{slice_get_read}
use Rattle.rollback_book.proofs.Outlined.{whole_to}
use Rattle.rollback_book.proofs.rerunning.settled_end.Goals as goal

pub returns-then-is_settlement-clause-whole : goal.returns-then-is_settlement-clause-whole
returns-then-is_settlement-clause-whole c =
    let entries = c.args.entries.now in
    let later = c.loop-end.end in
    let e = c.index-entries-end.result in
    let all = c.loop-end.invariant.0 in
    let some = c.loop-end-test.true in
    let there = slice_get_read entries (length entries) (later - 1) e refl (omega (arith, all, some)) c.index-entries-end.is in
    whole_to entries later e (omega (arith, some)) there (sym c.is_settlement.ensures ∙ c.if-is_settlement.true)
