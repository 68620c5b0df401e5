use Rattle.std.proofs.Common.{◌≡◌, arith}
use Rattle.step_workers.specs.Shares.{share_at}
use Rattle.step_workers.proofs.Sums.{allowance_more, no_more, one_more, roomy_more}
use Rattle.step_workers.proofs.allowance.allowances.Goals.{then-seat-remaining, else-seat-remaining}
use Rattle.step_workers.proofs.allowance.allowances.Goals as goal

pub loop-seat-preserved : goal.loop-seat-preserved
loop-seat-preserved c =
    let share : c.if-seat-remaining.share ≡ share_at c.args.budget c.args.seats c.loop-seat.seat =
    elim c.if-seat-remaining.branch [
      | then-seat-remaining w ↦ one_more _ _ _ _ w.if-seat-remaining.true w.share-is
      | else-seat-remaining w ↦ no_more _ _ _ _ w.if-seat-remaining.false w.share-is
    ] in
    let len = c.loop-seat.invariant.len in
    let grows = c.push_reserved.ensures.len in
    record {
      len = omega (arith, len, grows);
      room = rw c.push_reserved.ensures.capacity c.loop-seat.invariant.room;
      shares = allowance_more _ _ _ _ _ _ c.push_reserved.ensures.items c.loop-seat.invariant.shares share;
      roomy = rw c.push_reserved.ensures.items (roomy_more _ _ c.loop-seat.invariant.roomy (c.in_ok-taken.ensures.items, c.in_ok-taken.ensures.capacity));
    }
