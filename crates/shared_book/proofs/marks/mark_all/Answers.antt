use Rattle.std.proofs.Common.{arith, ◌∙◌}
use Rattle.shared_book.proofs.Marking.{mark_all_more}
use Rattle.shared_book.proofs.marks.mark_all.Goals as goal

pub loop-pass-preserved : goal.loop-pass-preserved
loop-pass-preserved g c = (
  c.mark.ensures.len ∙ c.loop-pass.invariant.0,
  λ j h.
      let step = c.mark.ensures.marked j (omega (arith, c.loop-pass.invariant.0)) in
      mark_all_more _ _ _ _ c.args.passes.now c.loop-pass.pass-index c.pass-item.result (omega (arith, c.loop-pass-test.true)) (rw (c.receipts.ensures, c.pass-item.is) at step) (c.loop-pass.invariant.1 j h),
)
