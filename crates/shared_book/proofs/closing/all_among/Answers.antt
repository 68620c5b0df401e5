use Rattle.shared_book.proofs.Counts.{stand_all_more}
use Rattle.shared_book.proofs.closing.all_among.Goals as goal

pub loop-pass-preserved : goal.loop-pass-preserved
loop-pass-preserved g c =
    stand_all_more c.args.entries.now c.args.passes.now c.loop-pass.pass-index c.pass-item.result c.loop-pass-test.true c.loop-pass.invariant (rw c.pass-item.is at c.in_ok-is_of.ensures)
