use Rattle.std.proofs.Common.{arith, ◌∙◌}
use Rattle.shared_book.proofs.Marking.{mark_more}
use Rattle.shared_book.proofs.marks.mark.Goals as goal

pub loop-receipt-preserved : goal.loop-receipt-preserved
loop-receipt-preserved c = (
  c.mark_one.ensures.len ∙ c.loop-receipt.invariant.0,
  λ j h. mark_more _ _ _ _ c.args.receipts.now c.loop-receipt.receipt-index _ (omega (arith, c.loop-receipt-test.true)) (rw c.receipt-item.is at c.mark_one.ensures.marked j (omega (arith, c.loop-receipt.invariant.0))) (c.loop-receipt.invariant.1 j h),
)
